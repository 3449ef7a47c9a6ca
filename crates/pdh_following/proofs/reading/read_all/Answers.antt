use Rattle.std.proofs.Common.{◌≡◌, ◌++◌, [], ◌∷◌, Bool, List, length, refl, sym, ap, ◌∙◌, subst, arith, append_assoc, append-nil}
use Rattle.pdh_placed.specs.Lines.{LineMeaning}
use Rattle.pdh_placed.specs.Places.{placed_events}
use Rattle.pdh_recording.specs.Given.{bits_left, Gives}
use Rattle.pdh_following.specs.Telling.{Told}
use Rattle.pdh_following.proofs.Blocks.{follows_none, follows_still, follows_more}
use Rattle.pdh_following.proofs.reading.read_all.Goals as goal

pub loop-turn-init : goal.loop-turn-init
loop-turn-init g c =
    let line = c.args.line.now in
    let m : LineMeaning = g.L.Recorded.meaning line in
    record {
      room = omega (arith, ap (λ p. p.capacity) c.in_ok-bits.ensures);
      same = refl;
      written = c.requires.written;
      followed = λ front stands. (
        [],
        subst (g.L.Recorded.stands line) (sym (append-nil front)) stands,
        follows_none g.W.Write.contents m.notes front (bits_left g.R.Read.remaining c.args.order c.args.recording.now) c.args.watch.now,
      );
    }

pub next-requires : goal.next-requires
next-requires g c = record { room = c.loop-turn.invariant.room }

pub give-requires : goal.give-requires
give-requires g c =
    let at = c.loop-turn.invariant.followed c.requires.stands.0 c.requires.stands.1 in
    (_, at.1)

pub loop-turn-preserved : goal.loop-turn-preserved
loop-turn-preserved g c =
    let m : LineMeaning = g.L.Recorded.meaning c.args.line.now in
    let inv = c.loop-turn.invariant in
    let gave = c.in_ok-give.ensures in
    let bits : List Bool = c.next.new.into.bits in
    record {
      room = omega (arith, inv.room, c.next.ensures.capacity);
      same = gave.same ∙ inv.same;
      written = gave.written;
      followed = λ front stands.
          let at = inv.followed front stands in
          let T : LineMeaning → Type 0 = λ m. Told g.W.Write.contents c.loop-turn.watch.watch c.give.new.watch.watch (placed_events m.notes (front ++ at.0) c.loop-turn.watch.place bits) in (
            at.0 ++ bits,
            subst (g.L.Recorded.stands c.give.new.line) (append_assoc front at.0 bits) (gave.stands (front ++ at.0) at.1),
            follows_more g.W.Write.contents m.notes front (bits_left g.R.Read.remaining c.args.order c.args.recording.now) (bits_left g.R.Read.remaining c.args.order c.loop-turn.recording)
                (bits_left g.R.Read.remaining c.args.order c.next.new.self) c.args.watch.now c.loop-turn.watch c.give.new.watch at.0 bits at.2 c.in_ok-next.ensures.given gave.place
                (subst T inv.same (gave.told (front ++ at.0) at.1)),
          );
    }

pub returns-in_err-next-clause-same : goal.returns-in_err-next-clause-same
returns-in_err-next-clause-same g c = c.loop-turn.invariant.same

pub returns-in_err-give-clause-same : goal.returns-in_err-give-clause-same
returns-in_err-give-clause-same g c = c.give.ensures.same ∙ c.loop-turn.invariant.same

pub returns-clause-same : goal.returns-clause-same
returns-clause-same g c = c.loop-turn.invariant.same

pub returns-then-len-eq0-clause-same : goal.returns-then-len-eq0-clause-same
returns-then-len-eq0-clause-same g c = c.loop-turn.invariant.same

pub returns-then-len-eq0-clause-written : goal.returns-then-len-eq0-clause-written
returns-then-len-eq0-clause-written g c = c.loop-turn.invariant.written

none_is : (bits : List Bool) → length bits ≡ 0 → bits ≡ []
none_is [] e = refl
none_is (bit ∷ bits) e = absurd (omega (arith, e))

pub returns-then-len-eq0-clause-followed : goal.returns-then-len-eq0-clause-followed
returns-then-len-eq0-clause-followed g c = λ front stands.
    let m : LineMeaning = g.L.Recorded.meaning c.args.line.now in
    let at = c.loop-turn.invariant.followed front stands in
    let left = bits_left g.R.Read.remaining c.args.order c.loop-turn.recording in
    let now = bits_left g.R.Read.remaining c.args.order c.next.new.self in
    let none : c.next.new.into.bits ≡ [] = none_is c.next.new.into.bits (omega (arith, c.len.ensures.count, c.if-len-eq0.true)) in (
      at.0,
      at.1,
      follows_still g.W.Write.contents m.notes front (bits_left g.R.Read.remaining c.args.order c.args.recording.now) left now c.args.watch.now c.loop-turn.watch at.0 at.2
          (subst (Gives left now) none c.in_ok-next.ensures.given),
    )
