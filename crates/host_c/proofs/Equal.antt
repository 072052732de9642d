-- What is handed over of an answer is handed over of the definition that it equals. Assumes nothing.
use Prim.Native.Nat.{ℕ}
use mathlib.Core.Path.{◌≡◌}
use mathlib.Core.List.{List}
use lib.IntN.{ℤ}
use lib.Ieee.{Float}
use Rattle.floats.specs.Answers.{Answer, Outcome}
use Rattle.callnotices.specs.declared.CallList.{CallList}
use Rattle.bondevents.specs.declared.GridAnswer.{GridAnswer}
use Rattle.terms.specs.Terms.{CallSchedule, Market}
use Rattle.treebasedbondpricer.specs.declared.TreeValue.{TreeValue}
use Rattle.treebasedbondpricer.specs.Tree.{Lent}
use Rattle.treebasedbondpricer.specs.Entry.{Entered}
use Rattle.interestrate.specs.declared.YieldPrice.{YieldPrice}
use Rattle.brackets.specs.declared.Root.{Root}
use Rattle.brackets.specs.Brackets.{Searched}
use Rattle.spreads.specs.Spreads.{Quoted, Solved}
use Rattle.sizing.specs.declared.Lengths.{Lengths}
use Rattle.sizing.specs.Sizing.{SizesEntered}
use Rattle.host.specs.Handed.{Handed, HandedGrid, HandedList, HandedValue, HandedTree, HandedPrice, HandedRoot, HandedSpread, HandedLengths, HandedSizes}

pub handed_as : {a b : Answer} {result place : ℕ} {value : Float} → a ≡ b → Handed a result place value → Handed b result place value
handed_as e h = rw (← e) h

pub grid_as : {a b : GridAnswer} {result place steps : ℕ} {maturity : Float} {cashflows prices put-prices : List Float} {marks put-marks : List ℕ} → a ≡ b → HandedGrid a result place maturity steps cashflows marks prices put-marks put-prices → HandedGrid b result place maturity steps cashflows marks prices put-marks put-prices
grid_as e h = rw (← e) h

pub list_as : {a b : CallList} {result place count : ℕ} {starts ends : List ℕ} {strikes : List Float} → a ≡ b → HandedList a result place count starts ends strikes → HandedList b result place count starts ends strikes
list_as e h = rw (← e) h

pub tree_as : {m : Market} {calls : CallSchedule} {a : Outcome TreeValue} {before after : Lent} {result place nodes : ℕ} {value : Float} → Entered m calls a before after → HandedValue a result place value nodes → HandedTree m calls before after result place value nodes
tree_as e h = record { handed = rw (← e.value) h; slices = e.slices }

pub price_as : {a b : Outcome YieldPrice} {result place : ℕ} {price derivative : Float} → a ≡ b → HandedPrice a result place price derivative → HandedPrice b result place price derivative
price_as e h = rw (← e) h

pub root_as : {a b : Searched Root} {result place evaluations : ℕ} {value : Float} → a ≡ b → HandedRoot a result place value evaluations → HandedRoot b result place value evaluations
root_as e h = rw (← e) h

pub spread_as : {asked : Quoted} {calls : CallSchedule} {a : Searched Root} {before after : Lent} {result place tried : ℕ} {spread : Float} → Solved asked calls a before after → HandedRoot a result place spread tried → HandedSpread asked calls before after result place spread tried
spread_as e h = record { handed = rw (← e.root) h; slices = e.slices }

pub sizes_as_lem : {m : Market} {calls : CallSchedule} {a : Outcome Lengths} {before after : List ℤ} {result place nodes probabilities row count : ℕ} → SizesEntered m calls a before after → HandedLengths a result place nodes probabilities row count → HandedSizes m calls before after result place nodes probabilities row count
sizes_as_lem e h = record { handed = rw (← e.sizes) h; slice = e.slice }
