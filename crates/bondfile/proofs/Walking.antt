-- From line to line. Assumes nothing.
use Rattle.bondfile.specs.laws.Files.{entries-step, entries-end}

pub ruleset walking = (entries-step, entries-end)
