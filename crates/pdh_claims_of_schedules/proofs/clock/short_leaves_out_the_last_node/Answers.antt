use Rattle.std.proofs.Common.{◌+◌, IsNone, Option, option_map, refl, sym, ◌∙◌, ap, subst, arith}
use Rattle.pdh_clock.specs.Begun.{Shortage, shortage_of}
use Rattle.pdh_clock.proofs.Begins.{none_short}
use Rattle.pdh_claims_of_schedules.proofs.clock.short_leaves_out_the_last_node.Goals as goal

pub returns : goal.returns
returns c none k within =
    let is = sym c.short.ensures.short ∙ ap (option_map shortage_of) none in
    none_short c.args.schedule.now c.args.top_frames (k + 1) (subst (λ (o : Option Shortage). IsNone o) (sym is) refl) k (omega arith) within
