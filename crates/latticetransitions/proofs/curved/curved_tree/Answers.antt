-- `curved::curved_tree` meets its contract. Assumes nothing.
use Rattle.std.specs.Prelude.{◌≡◌, Err}
use Rattle.std.proofs.Common.{rules}
use mathlib.Core.Path.{sym, ◌∙◌}
use lib.ListN.{get_or}
use lib.Ieee.{nan}
use Rattle.lattice.specs.laws.Growing.{room_left}
use Rattle.lattice.specs.laws.NextLayer.{spacing_bounds}
use Rattle.lattice.specs.laws.Rooted.{decay-above, lays-nothing, no_decay_lem, no_spacing, from_root_lem}
use Rattle.latticetransitions.proofs.curved.curved_tree.Goals as goal

pub returns-in_err-decay : goal.returns-in_err-decay
returns-in_err-decay c = lays-nothing (no_decay_lem (room_left c.args.nodes.now c.args.probabilities.now c.args.rows.first c.args.rows.second) c.args.alpha c.args.dt c.args.variances.now c.requires.variances_nonzero.0 c.decay_of.ensures c.in_err-decay.was) (let x : c.from_residual.result ≡ Err c.in_err-decay.field-0.0 = search rules in x)

pub returns-in_err-spacing : goal.returns-in_err-spacing
returns-in_err-spacing c = lays-nothing (no_spacing (room_left c.args.nodes.now c.args.probabilities.now c.args.rows.first c.args.rows.second) c.args.alpha c.args.dt c.args.variances.now c.requires.variances_nonzero.0 c.decay_of.ensures c.in_ok-decay.was c.spacing_of.ensures c.in_err-spacing.was) (let x : c.from_residual-in_err-spacing.result ≡ Err c.in_err-spacing.field-0.0 = search rules in x)

pub rooted-requires : goal.rooted-requires
rooted-requires c =
    record {
      t = (
        decay-above c.args.alpha c.args.dt c.in_ok-decay.decay (sym c.decay_of.ensures ∙ c.in_ok-decay.was),
        (spacing_bounds (get_or c.args.variances.now 0 nan) 0 c.in_ok-spacing.spacing (sym c.spacing_of.ensures ∙ c.in_ok-spacing.was)).not_below_lem,
        c.requires.variances_nonzero.1,
      );
      counts_len = c.requires.counts_len;
    }

pub returns : goal.returns
returns c = rw (from_root_lem (room_left c.args.nodes.now c.args.probabilities.now c.args.rows.first c.args.rows.second) c.args.alpha c.args.dt c.args.variances.now c.requires.variances_nonzero.0 c.decay_of.ensures c.in_ok-decay.was c.spacing_of.ensures c.in_ok-spacing.was) c.rooted.ensures
