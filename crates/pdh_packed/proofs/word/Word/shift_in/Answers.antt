use Rattle.std.proofs.Common.{◌≡◌, ℕ, ◌-◌, drop, length, sym, ap, ◌∙◌, arith}
use Rattle.pdh_packed.proofs.PackedLaws.{drop_past}
use Rattle.pdh_packed.proofs.word.Word.shift_in.Goals as goal

pub returns-then-count-len : goal.returns-then-count-len
returns-then-count-len c =
    let next = c.args.next in
    let count : c.len-count.result - c.len-then-count-len.result ≡ length next - length c.args.self.now = omega (arith, c.len-count.ensures.count, c.len-then-count-len.ensures.count) in
    c.after.ensures ∙ ap (λ (k : ℕ). drop k next) count
    ∙ sym (drop_past (length next) c.args.self.now next (omega (arith, c.if-count-len.true, c.len-count.ensures.count, c.len.ensures.count)))
