use Rattle.std.proofs.Common.{◌≡◌, ℕ, ◌+◌, ◌-◌, ◌*◌, ◌/◌, ◌%◌, ◌++◌, ◌≤◌, Bool, List, length, take, drop, refl, ap, sym, subst, ◌∙◌, arith, length-drop}
use Rattle.std.proofs.lemmas.List.{take_all}
use Rattle.pdh_bits.specs.Bits.{bits_of}
use Rattle.pdh_bits.specs.BitOut.{BoundedBits}
use Rattle.pdh_bits.proofs.BitsLemmas.{length-bits_of}
use Rattle.pdh_ds1.specs.declared.plan.SuperframePlan.{SuperframePlan}
use Rattle.pdh_ds1.specs.Packing.{word_of, sent_word, packed_frames, superframe_of}
use Rattle.pdh_ds1.proofs.PackingLaws.{frames_none, first_whole, sends_first, next_whole, frames_all, frames_packed, superframe_pushed}
use Rattle.pdh_ds1.proofs.FramerLaws.{bits_from}
use Rattle.pdh_ds1.proofs.codec.pack_by.Goals as goal

pub loop-first-init : goal.loop-first-init
loop-first-init g c =
    let frames : ℕ = g.P.InSuperframe.PLAN.frames in
    let empty = ap (λ (p : BoundedBits). p.bits) c.in_ok-line.ensures in
    record {
      packed = empty ∙ sym (frames_none g.P.InSuperframe.f_bits frames (bits_of c.args.payload.now));
      long = ap length empty;
      whole = first_whole frames;
      sends = sends_first frames c.in_ok-line.line.bits;
      within = omega arith;
      room = ap (λ (p : BoundedBits). p.capacity) c.in_ok-line.ensures;
      count = refl;
      frames = ap (λ (p : SuperframePlan). p.frames) c.PLAN-frames.ensures;
    }

pub push_superframe-sent-requires : goal.push_superframe-sent-requires
push_superframe-sent-requires g c =
    let inv = c.loop-first.invariant in
    record {
      enough = omega (arith, inv.count, inv.frames, length-drop (24 * c.loop-first.first) c.args.payload.now);
      room = omega (arith, inv.long, inv.room, inv.count, inv.frames);
    }

pub loop-first-preserved : goal.loop-first-preserved
loop-first-preserved g c =
    let f_bits = g.P.InSuperframe.f_bits in
    let frames : ℕ = g.P.InSuperframe.PLAN.frames in
    let octets : List ℕ = c.args.payload.now in
    let payload : List Bool = bits_of octets in
    let inv = c.loop-first.invariant in
    let first : ℕ = c.loop-first.first in
    let sent : ℕ = c.loop-first.sent in
    let line : List Bool = c.push_superframe-sent.new.line.bits in
    let word : ℕ = c.push_superframe-sent.result in
    let next = ap (λ (n : ℕ). first + n) (sym inv.frames) in
    let at : 8 * (24 * first) ≡ 192 * first = omega arith in
    let rest : bits_of (take (length octets - 24 * first) (drop (24 * first) octets)) ≡ drop (192 * first) payload =
    ap bits_of (take_all (length octets - 24 * first) (drop (24 * first) octets) (omega (arith, length-drop (24 * first) octets)))
    ∙ bits_from (24 * first) octets (omega (arith, inv.count)) ∙ ap (λ (n : ℕ). drop n payload) at in
    let enough : 192 * (first + frames) ≤ length payload = omega (arith, inv.count, inv.frames, length-bits_of octets) in
    let pushed = superframe_pushed f_bits frames payload c.loop-first.line.bits first sent word g.met.P.InSuperframe.is_plan.some inv.whole enough inv.packed inv.sends
    (c.push_superframe-sent.ensures.word ∙ ap (λ (x : List Bool). word_of frames (superframe_of f_bits sent x frames)) rest) in
    let is : line ≡ c.loop-first.line.bits ++ superframe_of f_bits sent (drop (192 * first) payload) frames =
    ap (λ (p : BoundedBits). p.bits) c.push_superframe-sent.ensures.line ∙ ap (λ (x : List Bool). c.loop-first.line.bits ++ superframe_of f_bits sent x frames) rest in
    let made : line ≡ packed_frames f_bits frames payload (first + frames) = is ∙ pushed.0 in
    record {
      packed = made ∙ ap (packed_frames f_bits frames payload) next;
      long = ap length made ∙ (frames_packed f_bits frames payload (first + frames) enough).long ∙ ap (λ (n : ℕ). 193 * n) next;
      whole = subst (λ (n : ℕ). frames * (n / frames) ≡ n) next (next_whole frames first g.met.P.InSuperframe.is_plan.some inv.whole);
      sends = subst (λ (n : ℕ). word ≡ sent_word frames line (n / frames)) next (pushed.1 ∙ ap (λ (l : List Bool). sent_word frames l ((first + frames) / frames)) (sym is));
      within = omega arith;
      room = ap (λ (p : BoundedBits). p.capacity) c.push_superframe-sent.ensures.line ∙ inv.room;
      count = inv.count;
      frames = inv.frames;
    }

pub returns : goal.returns
returns g c =
    let frames : ℕ = g.P.InSuperframe.PLAN.frames in
    let inv = c.loop-first.invariant in
    let whole = ap (λ (n : ℕ). n % frames) inv.count ∙ c.requires in
    let all : c.loop-first.first ≡ length c.args.payload.now / 24 = frames_all frames c.loop-first.first _ g.met.P.InSuperframe.is_plan.some inv.whole whole inv.within (omega (arith, inv.frames)) ∙ inv.count in
    inv.packed ∙ ap (packed_frames g.P.InSuperframe.f_bits frames (bits_of c.args.payload.now)) all
