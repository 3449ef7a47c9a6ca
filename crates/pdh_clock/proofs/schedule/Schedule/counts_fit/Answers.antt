use Rattle.std.proofs.Common.{◌≤◌, ℕ, List, subst}
use Rattle.pdh_levels.specs.Levels.{len_at}
use Rattle.pdh_clock.specs.Contents.{Contents, counts}
use Rattle.pdh_clock.specs.Stored.{rows_in}
use Rattle.pdh_clock.proofs.Laws.{counts_most}
use Rattle.pdh_clock.proofs.Served.{tree_sound}
use Rattle.pdh_clock.proofs.schedule.Schedule.counts_fit.Goals as goal

pub returns : goal.returns
returns c =
    subst (λ (s : Contents). (path : List ℕ) (trib frame : ℕ) → counts s.rows path trib frame ≤ len_at s.levels path) c.self.view_is
    (λ path trib frame. counts_most c.self.inside.tree.levels.items (rows_in c.self.inside.tree) path trib frame (tree_sound c.self.inside.tree c.self.invariant))
