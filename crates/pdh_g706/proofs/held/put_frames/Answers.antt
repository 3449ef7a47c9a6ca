use Rattle.std.proofs.Common.{◌≡◌, ◌+◌, ◌*◌, Bool, List, ◌++◌, take, drop, sym, ◌∙◌, ap, subst, refl, arith}
use Rattle.std.proofs.lemmas.Result.{err_from_is_err_and}
use Rattle.pdh_edge.specs.Ports.{Puts, IsPrefix, for_leaf}
use Rattle.pdh_edge.proofs.Runs.{puts_then, puts_part}
use Rattle.pdh_g706.specs.Frames.{frames_of}
use Rattle.pdh_g706.specs.Machine.{payload_from}
use Rattle.pdh_g706.proofs.HeldLaws.{payload_more, payload_begins}
use Rattle.pdh_g706.proofs.held.put_frames.Goals as goal

pub returns-in_err-put_all-clause-part : goal.returns-in_err-put_all-clause-part
returns-in_err-put_all-clause-part g c =
    let p = err_from_is_err_and c.from_residual.result c.from_residual.ensures.1 in
    let outputs = g.D.Drain.outputs in
    let bits = c.args.held.now.bits in
    let k = c.args.frame in
    let n = c.loop-number.number in
    let payload : List Bool = c.bits.result.now.bits in
    let copied : payload ≡ take 248 (drop (256 * (k + n) + 8) bits) = c.bits.ensures ∙ c.load.ensures in
    let more : payload_from (frames_of bits) k (n + 1) ≡ payload_from (frames_of bits) k n ++ payload = payload_more bits k n (256 * (k + n) + 8) (omega arith) refl ∙ ap (λ (x : List Bool). payload_from (frames_of bits) k n ++ x) (sym copied) in
    let front = payload_begins bits k (n + 1) c.args.count (omega arith) in
    let begins : IsPrefix (payload_from (frames_of bits) k n ++ payload) (payload_from (frames_of bits) k c.args.count) = subst (λ (x : List Bool). IsPrefix x (payload_from (frames_of bits) k c.args.count)) more front in
    rw p.1
    (puts_part 0 (payload_from (frames_of bits) k n) payload (payload_from (frames_of bits) k c.args.count) (outputs c.args.drain.now) (outputs c.loop-number.drain) (outputs c.put_all.new.self)
    c.loop-number.invariant.puts c.in_err-put_all.ensures.err begins)

pub loop-number-preserved : goal.loop-number-preserved
loop-number-preserved g c =
    let outputs = g.D.Drain.outputs in
    let bits = c.args.held.now.bits in
    let k = c.args.frame in
    let n = c.loop-number.number in
    let payload : List Bool = c.bits.result.now.bits in
    let copied : payload ≡ take 248 (drop (256 * (k + n) + 8) bits) = c.bits.ensures ∙ c.load.ensures in
    let more : payload_from (frames_of bits) k (n + 1) ≡ payload_from (frames_of bits) k n ++ payload = payload_more bits k n (256 * (k + n) + 8) (omega arith) refl ∙ ap (λ (x : List Bool). payload_from (frames_of bits) k n ++ x) (sym copied) in
    record {
      puts = subst (λ (x : List Bool). Puts (for_leaf 0 x) (outputs c.args.drain.now) (outputs c.put_all.new.self)) (sym more)
          (puts_then 0 (payload_from (frames_of bits) k n) payload (outputs c.args.drain.now) (outputs c.loop-number.drain) (outputs c.put_all.new.self) c.loop-number.invariant.puts c.in_ok-put_all.ensures.ok);
      unfailed = c.in_ok-put_all.ensures.cause ∙ c.loop-number.invariant.unfailed;
      drained = g.met.D.Drain.drained_join c.args.drain.now c.loop-number.drain c.put_all.new.self c.loop-number.invariant.drained c.put_all.ensures.drained;
    }
