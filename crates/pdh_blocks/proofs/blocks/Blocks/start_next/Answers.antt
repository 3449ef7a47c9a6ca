use Rattle.std.proofs.Common.{◌≡◌, ◌+◌, ◌^◌, ◌<◌, Some, Err, Ok, length, slice_get, refl, ◌∙◌, sym, subst, arith}
use Rattle.std.proofs.lemmas.Option.{slice_get_read}
use Rattle.pdh_edge.specs.Files.{Touches, Starts, FailsToStart}
use Rattle.pdh_edge.specs.Counts.{one_more}
use Rattle.pdh_blocks.specs.State.{over}
use Rattle.pdh_blocks.proofs.Results.{at_ok, at_err}
use Rattle.pdh_blocks.proofs.Starting.{start_done, start_failed, start_refused}
use Rattle.pdh_blocks.proofs.blocks.Blocks.start_next.Goals as goal

pub returns-clause-done : goal.returns-clause-done
returns-clause-done g c =
    let a = over (g.S.Shelf.state c.args.shelf.now) c.args.self.now in
    let s = g.S.Shelf.state c.start-started.new.self in
    let output = c.index.result.now in
    let at : slice_get a.outputs a.started ≡ Some output = slice_get_read _ _ a.started _ refl c.requires.more c.index.ensures in
    let touched = subst (λ name. Touches name a.shelf s) c.name.ensures c.start-started.ensures.kept in
    let fails = subst (λ name. FailsToStart name a.shelf s) c.name.ensures (at_err c.start-started.result (sym c.is_ok.ensures.value ∙ c.if-is_ok.false) c.start-started.ensures.err) in
    let fit = c.drain_failed.ensures.fits in
    let fits : a.shelf.counts.write_faults < 2 ^ 64 = omega (arith, c.write_faults-fits.ensures, c.write_faults-fits.type_inv) in
    rw c.drain_failed.ensures.counted
    (start_failed a s output c.requires.port at touched (one_more a.drain_faults) (Some (length a.leaves + a.started)) c.requires.more refl fails (Err c.drain_failed.result) refl fit fits refl)

pub returns-clause-err : goal.returns-clause-err
returns-clause-err g c =
    let a = over (g.S.Shelf.state c.args.shelf.now) c.args.self.now in
    let s = g.S.Shelf.state c.start-started.new.self in
    let output = c.index.result.now in
    let at : slice_get a.outputs a.started ≡ Some output = slice_get_read _ _ a.started _ refl c.requires.more c.index.ensures in
    let touched = subst (λ name. Touches name a.shelf s) c.name.ensures c.start-started.ensures.kept in
    let fails = subst (λ name. FailsToStart name a.shelf s) c.name.ensures (at_err c.start-started.result (sym c.is_ok.ensures.value ∙ c.if-is_ok.false) c.start-started.ensures.err) in
    rw c.drain_failed.ensures.counted (start_refused a s output c.requires.port at touched (one_more a.drain_faults) (Some (length a.leaves + a.started)) c.requires.more refl fails)

pub returns-then-is_ok-clause-done : goal.returns-then-is_ok-clause-done
returns-then-is_ok-clause-done g c =
    let a = over (g.S.Shelf.state c.args.shelf.now) c.args.self.now in
    let s = g.S.Shelf.state c.start-started.new.self in
    let output = c.index.result.now in
    let at : slice_get a.outputs a.started ≡ Some output = slice_get_read _ _ a.started _ refl c.requires.more c.index.ensures in
    let touched = subst (λ name. Touches name a.shelf s) c.name.ensures c.start-started.ensures.kept in
    let starts = subst (λ name. Starts name a.shelf s) c.name.ensures (at_ok c.start-started.result (sym c.is_ok.ensures.value ∙ c.if-is_ok.true) c.start-started.ensures.ok) in
    start_done a s output c.requires.port at touched (Ok tt) refl c.requires.more starts
