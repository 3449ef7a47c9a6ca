use Rattle.std.proofs.Common.{◌≡◌, ℕ, Bool, List, ◌++◌, length, take, drop, ap, ◌∙◌, arith}
use Rattle.std.proofs.Math.Seq.{take-length}
use Rattle.pdh_edge.specs.Ports.{for_leaf}
use Rattle.pdh_rx.specs.Tail.{tail_meaning}
use Rattle.pdh_rx.proofs.Gains.{on_err_from}
use Rattle.pdh_rx.proofs.Shares.{takes_none}
use Rattle.pdh_rx.proofs.Tails.{tail_for_leaf, tail_quiet}
use Rattle.pdh_rx.proofs.tail.TailRx.glide.Goals as goal

all_of : (from len : ℕ) (bits : List Bool) → from ≡ 0 → len ≡ length bits → take len (drop from bits) ≡ bits
all_of from len bits none count = ap (λ n. take len (drop n bits)) none ∙ ap (λ n. take n bits) count ∙ take-length bits

pub returns-then-from-gt0-clause-taken : goal.returns-then-from-gt0-clause-taken
returns-then-from-gt0-clause-taken g c = takes_none _ _ _

pub returns-in_err-put_all-clause-part : goal.returns-in_err-put_all-clause-part
returns-in_err-put_all-clause-part g c =
    let leaf = c.args.self.now.leaf in
    let bits = c.args.bits.now.bits in
    let none : c.args.from ≡ 0 = omega (arith, c.if-from-gt0.false) in
    let here : drop c.args.from bits ≡ bits = ap (λ n. drop n bits) none in
    on_err_from _ c.from_residual.result (record {
      gains = λ line u. record { more = for_leaf leaf bits; gained = λ k. ap (λ v. (tail_meaning leaf).got (line ++ v) k) here ∙ tail_for_leaf leaf line bits k; puts = c.in_err-put_all.ensures.err };
    })

pub returns-clause-taken : goal.returns-clause-taken
returns-clause-taken g c =
    let leaf = c.args.self.now.leaf in
    let bits = c.args.bits.now.bits in
    let none : c.args.from ≡ 0 = omega (arith, c.if-from-gt0.false) in
    let here : take c.len.result (drop c.args.from bits) ≡ bits = all_of c.args.from c.len.result bits none c.len.ensures.count in
    record {
      stands = λ line u. tt;
      gains = λ line u. record { more = for_leaf leaf bits; gained = λ k. ap (λ v. (tail_meaning leaf).got (line ++ v) k) here ∙ tail_for_leaf leaf line bits k; puts = c.in_ok-put_all.ensures.ok };
    }

pub returns-clause-quiet : goal.returns-clause-quiet
returns-clause-quiet g c line u = tail_quiet c.args.self.now.leaf line (take c.len.result (drop c.args.from c.args.bits.now.bits))
