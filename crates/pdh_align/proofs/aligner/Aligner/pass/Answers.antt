-- The bits at which positions are given up.
use Rattle.std.proofs.Common.{◌≡◌, ◌+◌, ◌*◌, ◌<◌, ◌≤◌, Bool, List, [], ◌++◌, length, take, drop, sym, ap, ◌∙◌, subst, arith, length-append, length-drop}
use Rattle.std.proofs.lemmas.List.{length-take-le}
use Rattle.pdh_align.specs.Searching.{GivesUp, IsRejected}
use Rattle.pdh_align.proofs.Passing.{takes_pass, begun_pass}
use Rattle.pdh_align.proofs.ReadyFrames.{ring_alone, holds_search}
use Rattle.pdh_align.proofs.aligner.Aligner.pass.Goals as goal

pub invariant_of-self : goal.invariant_of-self
invariant_of-self g c =
    let s = g.S.Shape.shape in
    let n = c.rejected-count.result in
    let items = c.self.inside.held.bits in
    let more : List Bool = take n (drop c.args.from c.args.bits.now.bits) in
    let within : n ≤ length (drop c.args.from c.args.bits.now.bits) = omega (arith, c.rejected-count.ensures.count, c.min-most.ensures, c.min.ensures, c.len.ensures.count, length-drop c.args.from c.args.bits.now.bits) in
    let count : length more ≡ n = length-take-le n (drop c.args.from c.args.bits.now.bits) within in
    let positive : 0 < g.S.Shape.LEN = omega (arith, g.met.S.Shape.len_is, g.met.S.Shape.is_frame.some_slots) in
    let full : 3 * g.S.Shape.LEN ≡ length items + 1 = omega (arith, c.self.invariant.short c.if-not-self.false, c.held.ensures.count, c.LEN.ensures, c.if-held-LEN.false) in
    let few : length more ≤ length items = omega (arith, count, c.rejected-count.ensures.within, full, positive) in
    let now : c.slide.new.held.bits ≡ drop (length more) items ++ more = ap (λ b. b.bits) c.slide.ensures ∙ ap (λ k. drop k items ++ more) (sym count) in
    let gives : GivesUp s c.push_all.new.self c.give_up.new.self (length more) = subst (GivesUp s c.push_all.new.self c.give_up.new.self) (sym count) c.give_up.ensures in
    let room : c.slide.new.held.capacity ≡ c.self.inside.held.capacity = ap (λ b. b.capacity) c.slide.ensures in
    let begun = begun_pass s c.self.inside.search c.push_all.new.self c.give_up.new.self items c.slide.new.held.bits more few now c.push_all.ensures gives (c.self.invariant.begun c.if-not-self.false) in
    let short : length c.slide.new.held.bits < 3 * g.S.Shape.LEN = omega (arith, ap length now, length-append (drop (length more) items) more, length-drop (length more) items, few, full) in
    holds_search s g.S.Shape.LEN c.self.inside.signals c.self.inside.searching c.self.inside.fresh c.slide.new.held c.self.inside.frame c.give_up.new.self c.self.inside.before c.self.invariant.judges (room ∙ c.self.invariant.room)
    c.self.invariant.list_room c.self.invariant.three c.if-not-self.false (c.self.invariant.idle c.if-not-self.false) short (c.self.invariant.unlisted c.if-not-self.false) begun.0 begun.1

pub returns-clause-passes : goal.returns-clause-passes
returns-clause-passes g c some line h =
    let s = g.S.Shape.shape in
    let n = c.rejected-count.result in
    let items = c.self.inside.held.bits in
    let more : List Bool = take n (drop c.args.from c.args.bits.now.bits) in
    let within : n ≤ length (drop c.args.from c.args.bits.now.bits) = omega (arith, c.rejected-count.ensures.count, c.min-most.ensures, c.min.ensures, c.len.ensures.count, length-drop c.args.from c.args.bits.now.bits) in
    let count : length more ≡ n = length-take-le n (drop c.args.from c.args.bits.now.bits) within in
    let positive : 0 < g.S.Shape.LEN = omega (arith, g.met.S.Shape.len_is, g.met.S.Shape.is_frame.some_slots) in
    let full : 3 * g.S.Shape.LEN ≡ length items + 1 = omega (arith, c.self.invariant.short c.if-not-self.false, c.held.ensures.count, c.LEN.ensures, c.if-held-LEN.false) in
    let few : length more ≤ length items = omega (arith, count, c.rejected-count.ensures.within, full, positive) in
    let now : c.slide.new.held.bits ≡ drop (length more) items ++ more = ap (λ b. b.bits) c.slide.ensures ∙ ap (λ k. drop k items ++ more) (sym count) in
    let gives : GivesUp s c.push_all.new.self c.give_up.new.self (length more) = subst (GivesUp s c.push_all.new.self c.give_up.new.self) (sym count) c.give_up.ensures in
    let (since, kept) = c.self.invariant.begun c.if-not-self.false in
    let list : List Bool = c.self.inside.frame.bits in
    let none : list ≡ [] = c.self.invariant.unlisted c.if-not-self.false in
    let alone : items ++ list ≡ items = ring_alone items list none in
    let now' : c.slide.new.held.bits ++ list ≡ drop (length more) (items ++ list) ++ more = ring_alone c.slide.new.held.bits list none ∙ now ∙ ap (λ x. drop (length more) x ++ more) (sym alone) in
    takes_pass s g.S.Shape.LEN c.self.inside.searching c.self.inside.fresh c.self.inside.before (items ++ list) (c.slide.new.held.bits ++ list) more c.self.inside.search c.push_all.new.self c.give_up.new.self c.args.self.now line
    g.met.S.Shape.is_frame g.met.S.Shape.len_is c.self.view_is c.if-not-self.false (full ∙ ap (λ x. length x + 1) (sym alone)) (omega (arith, few, ap length alone))
    (λ i lt. subst (λ x. IsRejected s x i) (sym alone) (c.rejected-count.ensures.rejected since kept i (omega (arith, lt, count)))) now' c.push_all.ensures gives h
