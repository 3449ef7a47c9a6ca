use Rattle.std.proofs.Common.{◌≡◌, ℕ, ◌+◌, ◌*◌, ◌∷◌, ◌++◌, [], true, Bool, List, length, refl, ap, ◌∙◌, arith, length-append}
use Rattle.std.specs.List.{slice_range}
use Rattle.pdh_bits.specs.Bits.{bits_of}
use Rattle.pdh_bits.specs.BitOut.{BoundedBits}
use Rattle.pdh_bits.proofs.BitsLemmas.{length-bits_of}
use Rattle.pdh_ds1.specs.declared.plan.SuperframePlan.{SuperframePlan}
use Rattle.pdh_ds1.specs.Packing.{packed_bit, frame_bits}
use Rattle.pdh_ds1.proofs.PackingLaws.{bits_long}
use Rattle.pdh_ds1.proofs.FramerLaws.{none_appended, frame_appended, appended_long, all_appended, octets_at, word_more, word_all}
use Rattle.pdh_ds1.proofs.framer.push_superframe.Goals as goal

pub loop-place-init : goal.loop-place-init
loop-place-init g c = record {
  line = none_appended g.P.InSuperframe.f_bits c.args.sent (bits_of c.args.payload.now) c.args.line.now;
  word = refl;
  six_bits = omega arith;
}

pub push-requires : goal.push-requires
push-requires g c =
    let end : c.PLAN-place-end.result.frames ≡ g.P.InSuperframe.PLAN.frames = ap (λ (p : SuperframePlan). p.frames) c.PLAN-place-end.ensures in
    let payload : List Bool = bits_of c.args.payload.now in
    let long = appended_long g.P.InSuperframe.f_bits c.args.sent payload c.args.line.now c.loop-place.line c.loop-place.place c.loop-place.invariant.line (omega (arith, end, c.requires.enough, length-bits_of c.args.payload.now)) in
    omega (arith, end, long.0, long.1, c.requires.room)

pub append_bytes-requires : goal.append_bytes-requires
append_bytes-requires g c =
    let end : c.PLAN-place-end.result.frames ≡ g.P.InSuperframe.PLAN.frames = ap (λ (p : SuperframePlan). p.frames) c.PLAN-place-end.ensures in
    let octets : List ℕ = c.args.payload.now in
    let place : ℕ = c.loop-place.place in
    let long = appended_long g.P.InSuperframe.f_bits c.args.sent (bits_of octets) c.args.line.now c.loop-place.line place c.loop-place.invariant.line (omega (arith, end, c.requires.enough, length-bits_of octets)) in
    let pushed : length c.push.new.self.bits ≡ length c.loop-place.line.bits + 1 = ap (λ (p : BoundedBits). length p.bits) c.push.ensures ∙ length-append c.loop-place.line.bits (c.packed_bit.result ∷ []) in
    let room : c.push.new.self.capacity ≡ c.loop-place.line.capacity = ap (λ (p : BoundedBits). p.capacity) c.push.ensures in
    let part : List ℕ = slice_range octets (24 * place) (24 * place + 24) in
    let size : length (bits_of part) ≡ 192 = ap length (octets_at octets place (omega (arith, end, c.requires.enough))) ∙ bits_long (bits_of octets) place (omega (arith, end, c.requires.enough, length-bits_of octets)) in
    omega (arith, end, pushed, room, long.0, long.1, size, length-bits_of part, c.requires.room)

pub loop-place-preserved : goal.loop-place-preserved
loop-place-preserved g c =
    let end : c.PLAN-place-end.result.frames ≡ g.P.InSuperframe.PLAN.frames = ap (λ (p : SuperframePlan). p.frames) c.PLAN-place-end.ensures in
    let octets : List ℕ = c.args.payload.now in
    let place : ℕ = c.loop-place.place in
    let inv = c.loop-place.invariant in
    let cut : bits_of (slice_range octets (24 * place) (24 * place + 24)) ≡ frame_bits (bits_of octets) place = octets_at octets place (omega (arith, end, c.requires.enough)) in
    record {
      line = frame_appended g.P.InSuperframe.f_bits c.args.sent (bits_of octets) _ c.args.line.now c.loop-place.line c.push.new.self c.append_bytes.new.self place c.packed_bit.result inv.line
          (c.packed_bit.ensures ∙ ap (λ role. packed_bit c.args.sent place role) c.f_bit.ensures) cut c.push.ensures c.append_bytes.ensures;
      word = word_more g.P.InSuperframe.f_bits c.args.sent (bits_of octets) _ place c.loop-place.word c.crc6_after-word.result inv.word (omega (arith, end, c.requires.enough, length-bits_of octets)) cut
          (λ ones holds. c.crc6_after-word.ensures.word (ones ++ true ∷ []) (c.with_bit.ensures.word ones holds));
      six_bits = c.crc6_after-word.ensures.six_bits;
    }

pub returns-clause-line : goal.returns-clause-line
returns-clause-line g c =
    let frames : ℕ = g.P.InSuperframe.PLAN.frames in
    let end : c.PLAN-place-end.result.frames ≡ frames = ap (λ (p : SuperframePlan). p.frames) c.PLAN-place-end.ensures in
    let all : c.loop-place.place ≡ frames = omega (arith, end) in
    all_appended g.P.InSuperframe.f_bits c.args.sent (bits_of c.args.payload.now) c.args.line.now c.loop-place.line c.loop-place.place frames c.loop-place.invariant.line all

pub returns-clause-word : goal.returns-clause-word
returns-clause-word g c =
    let frames : ℕ = g.P.InSuperframe.PLAN.frames in
    let end : c.PLAN-place-end.result.frames ≡ frames = ap (λ (p : SuperframePlan). p.frames) c.PLAN-place-end.ensures in
    let all : c.loop-place.place ≡ frames = omega (arith, end) in
    word_all g.P.InSuperframe.f_bits c.args.sent (bits_of c.args.payload.now) c.loop-place.place frames c.loop-place.word c.loop-place.invariant.word all
