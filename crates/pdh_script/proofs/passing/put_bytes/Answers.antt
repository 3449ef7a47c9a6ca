use Rattle.std.proofs.Common.{ℕ, ◌+◌, ◌-◌, List, Ok, take, drop, refl, ◌∙◌, subst, arith}
use Rattle.std.proofs.lemmas.List.{take_all}
use Rattle.std.proofs.lemmas.Result.{err_from_is_err_and}
use Rattle.pdh_bits.specs.Bits.{bits_of}
use Rattle.pdh_edge.proofs.Progress.{fails}
use Rattle.pdh_script.specs.Applying.{Passes, PassesSo}
use Rattle.pdh_script.proofs.Parts.{passing_starts, room_kept, bytes_are, bytes_pass, bytes_fail}
use Rattle.pdh_script.proofs.passing.put_bytes.Goals as goal

pub loop-done-init : goal.loop-done-init
loop-done-init g c = record {
  within = omega arith;
  capacity = refl;
  passes = passing_starts g.P.Feed g.P.Drain g.P.Port.kept (λ line. bits_of (take 0 c.args.bytes.now)) (λ line. bits_of c.args.bytes.now) 0 c.args.port.now (g.met.P.Port.kept_same c.args.port.now) refl;
}

pub returns-in_err-put_all-clause-passed : goal.returns-in_err-put_all-clause-passed
returns-in_err-put_all-clause-passed g c =
    let p = err_from_is_err_and c.from_residual.result c.from_residual.ensures.1 in
    let bytes = c.args.bytes.now in
    let i = c.loop-done.done in
    let n = c.min.result in
    let put = bytes_are c.loop-done.buffer c.clear.new.self c.append_bytes.new.self bytes i n (i + n - i) c.clear.ensures c.append_bytes.ensures (omega arith) in
    rw (p.1, p.2)
    (fails (bytes_fail g.P.Feed g.P.Drain g.P.Port.kept bytes i n (i + n) c.append_bytes.new.self.bits _ _ _ refl put (g.met.P.Port.drained_is_kept _ _ c.put_all.ensures.drained) (g.met.P.Port.drained_keeps_inputs _ _ c.put_all.ensures.drained) (g.met.P.Port.kept_join _ _ _)
    c.loop-done.invariant.passes c.in_err-put_all.ensures.cause c.in_err-put_all.ensures.err))

pub loop-done-preserved : goal.loop-done-preserved
loop-done-preserved g c =
    let bytes = c.args.bytes.now in
    let i = c.loop-done.done in
    let n = c.min.result in
    let put = bytes_are c.loop-done.buffer c.clear.new.self c.append_bytes.new.self bytes i n (i + n - i) c.clear.ensures c.append_bytes.ensures (omega arith) in
    record {
      within = omega (arith, c.min.ensures, c.loop-done-test.true);
      capacity = room_kept c.loop-done.buffer c.clear.new.self c.append_bytes.new.self (bits_of (take (i + n - i) (drop i bytes))) c.clear.ensures c.append_bytes.ensures ∙ c.loop-done.invariant.capacity;
      passes = bytes_pass g.P.Feed g.P.Drain g.P.Port.kept bytes i n (i + n) c.append_bytes.new.self.bits _ _ _ refl put (g.met.P.Port.drained_is_kept _ _ c.put_all.ensures.drained) (g.met.P.Port.drained_keeps_inputs _ _ c.put_all.ensures.drained) (g.met.P.Port.kept_join _ _ _)
          c.loop-done.invariant.passes c.in_ok-put_all.ensures.cause c.in_ok-put_all.ensures.ok;
    }

pub returns-clause-passed : goal.returns-clause-passed
returns-clause-passed g c =
    let all = take_all c.loop-done.done c.args.bytes.now (omega (arith, c.loop-done-test.false)) in
    subst (λ (bytes : List ℕ). PassesSo {T = Unit {0}} g.P.Feed g.P.Drain g.P.Port.kept (Passes (λ line. bits_of bytes) 0) (λ line. bits_of c.args.bytes.now) 0 c.args.port.now c.loop-done.port (Ok tt)) all c.loop-done.invariant.passes
