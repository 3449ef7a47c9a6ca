use Rattle.std.proofs.Common.{◌≡◌, ◌<◌, ◌≤◌, ◌+◌, ◌++◌, ◌∷◌, [], Bool, false, List, length, take, drop, map, sym, ap, ◌∙◌, subst, arith, append_assoc}
use Rattle.std.proofs.Math.Seq.{take-add}
use Rattle.std.proofs.lemmas.List.{take_more, take_all, length-take-le}
use Rattle.pdh_events.specs.laws.QuietLaws.{IsQuiet}
use Rattle.pdh_placed.specs.declared.placed.Placed.{Placed}
use Rattle.pdh_placed.specs.Lines.{LineMeaning}
use Rattle.pdh_placed.specs.Places.{at_place, placed_events}
use Rattle.pdh_placed.proofs.PlacedLaws.{quiet_placed, placed_push, placed_quiet}
use Rattle.pdh_placed.proofs.recorded.Recorded.take.Goals as goal

pub loop-done-init : goal.loop-done-init
loop-done-init g c =
    let m : LineMeaning = g.Self.Recorded.meaning c.args.self.now in
    let bits : List Bool = c.args.bits.now.bits in
    record {
      within = omega (arith, c.glide-done.ensures.count);
      stands = c.glide-done.ensures.stands;
      seen = λ line told.
          subst (λ (l : List Placed). g.W.PlacedWatch.saw c.args.watch.now.watch l c.args.watch.now.watch)
          (sym (quiet_placed m.notes line c.args.watch.now.place (take c.glide-done.result bits) (c.glide-done.ensures.quiet line told))) (g.met.W.PlacedWatch.saw_nothing _);
      same = c.glide-done.ensures.same;
    }

pub loop-done-preserved : goal.loop-done-preserved
loop-done-preserved g c =
    let m : LineMeaning = g.Self.Recorded.meaning c.args.self.now in
    let bits : List Bool = c.args.bits.now.bits in
    let first = c.args.watch.now.place in
    let n = c.loop-done.done in
    let inv = c.loop-done.invariant in
    let bit = c.get.result in
    let more = c.glide-done-in-loop-done.ensures in
    let k = c.glide-done-in-loop-done.result in
    let lt : n < length bits = omega (arith, c.loop-done-test.true, c.len-len.ensures.count) in
    let within : n ≤ length bits = omega (arith, lt) in
    let count : length (take n bits) ≡ n = length-take-le n bits within in
    let next : take (n + 1) bits ≡ take n bits ++ bit ∷ [] = take_more bits n false lt ∙ ap (λ b. take n bits ++ b ∷ []) (sym c.get.ensures) in
    let both : g.Self.Recorded.meaning c.push.new.self ≡ m = c.push.ensures.same ∙ inv.same in
    let pushed : (line : List Bool) → g.Self.Recorded.stands c.args.self.now line → g.Self.Recorded.stands c.push.new.self (line ++ take (n + 1) bits) = λ line told.
    subst (g.Self.Recorded.stands c.push.new.self) (append_assoc line (take n bits) (bit ∷ []) ∙ ap (λ (l : List Bool). line ++ l) (sym next))
    (c.push.ensures.stands (line ++ take n bits) (inv.stands line told)) in
    let seen : (line : List Bool) → g.Self.Recorded.stands c.args.self.now line
    → g.W.PlacedWatch.saw c.args.watch.now.watch (placed_events m.notes line first (take (n + 1) bits)) c.push.new.watch.watch = λ line told.
    (let N : LineMeaning → Type 0 = λ m. g.W.PlacedWatch.saw c.loop-done.watch.watch (map (at_place (first + n)) (m.notes (line ++ take n bits) bit)) c.push.new.watch.watch in
    let here : first + n ≡ first + length (take n bits) = omega (arith, count) in
    placed_push g.W.PlacedWatch.saw g.met.W.PlacedWatch.saw_join m.notes line first (take n bits) (take (n + 1) bits) bit (first + n) _ _ _ next here (inv.seen line told)
    (subst N inv.same (c.push.ensures.seen (line ++ take n bits) (inv.stands line told)).1)) in
    record {
      within = omega (arith, more.count);
      stands = λ line told.
          subst (g.Self.Recorded.stands c.glide-done-in-loop-done.new.self)
          (append_assoc line (take (n + 1) bits) (take k (drop (n + 1) bits)) ∙ ap (λ (l : List Bool). line ++ l) (sym (take-add (n + 1) k bits)))
          (more.stands (line ++ take (n + 1) bits) (pushed line told));
      seen = λ line told.
          let N : LineMeaning → Type 0 = λ m. IsQuiet m.notes (line ++ take (n + 1) bits) (take k (drop (n + 1) bits)) in
          placed_quiet g.W.PlacedWatch.saw g.met.W.PlacedWatch.saw_join m.notes line first (take (n + 1) bits) (take k (drop (n + 1) bits)) (take (n + 1 + k) bits) _ _
          (take-add (n + 1) k bits) (seen line told) (subst N both (more.quiet (line ++ take (n + 1) bits) (pushed line told)));
      same = more.same ∙ both;
    }

pub returns-clause-stands : goal.returns-clause-stands
returns-clause-stands g c line told =
    let all : take c.loop-done.done c.args.bits.now.bits ≡ c.args.bits.now.bits = take_all c.loop-done.done c.args.bits.now.bits (omega (arith, c.loop-done-test.false, c.len-len.ensures.count)) in
    subst (λ (l : List Bool). g.Self.Recorded.stands c.loop-done.self (line ++ l)) all (c.loop-done.invariant.stands line told)

pub returns-clause-seen : goal.returns-clause-seen
returns-clause-seen g c line told =
    let m : LineMeaning = g.Self.Recorded.meaning c.args.self.now in
    let all : take c.loop-done.done c.args.bits.now.bits ≡ c.args.bits.now.bits = take_all c.loop-done.done c.args.bits.now.bits (omega (arith, c.loop-done-test.false, c.len-len.ensures.count)) in
    subst (λ (l : List Bool). g.W.PlacedWatch.saw c.args.watch.now.watch (placed_events m.notes line c.args.watch.now.place l) c.loop-done.watch.watch) all (c.loop-done.invariant.seen line told)
