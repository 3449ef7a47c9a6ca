-- What is seen of the bits that a list gave.
use Rattle.std.proofs.Common.{◌≡◌, ℕ, ◌+◌, ◌<◌, ◌≤◌, ◌⊎◌, inl, inr, List, [], ◌++◌, Bool, Option, None, Some, Result, Ok, Err, IsOk, OnOk, length, take, refl, ap, sym, ◌∙◌, subst, arith}
use Rattle.std.proofs.lemmas.List.{length-append}
use Rattle.std.proofs.Math.Seq.{take-length, take-append_seam}
use Rattle.pdh_edge.specs.Ports.{Inputs, Takes, HasCause, before as told_before}
use Rattle.pdh_watch.specs.declared.event.Event.{Event}
use Rattle.pdh_watch.specs.Monitors.{State, SawAll, SawEach}
use Rattle.pdh_chain.specs.declared.stop.DemuxStop.{DemuxStop}
use Rattle.pdh_chain.specs.declared.stop.DemuxStop.TheVariants.{Memory, Ended, ReadFailed, WriteFailed}
use Rattle.pdh_chain.specs.Muxing.{as_line}
use Rattle.pdh_chain.proofs.Lists.{takes_line, takes_no_line}
use Rattle.pdh_inspect.specs.Seen.{SeesAll, SeesFewer, events_counted}
use Rattle.pdh_inspect.proofs.Counted.{counted_is}

-- ---- a list that is told

first_of_told : (given bits : List Bool) (rest : Option (List Bool)) → Some bits ≡ told_before given rest → given ≡ take (length given) bits
first_of_told given bits None told = absurd (cc)
first_of_told given bits (Some rest) told =
    let whole : bits ≡ given ++ rest = cc in
    sym (ap (take (length given)) whole ∙ take-append_seam given rest)

-- bits that were taken of it are its first ones
pub given_first : (given bits : List Bool) (x y : Inputs) → Takes (as_line given) x y → x.told 0 ≡ Some bits → given ≡ take (length given) bits
given_first given bits x y takes told = first_of_told given bits (y.told 0) (sym told ∙ takes.bits 0)

-- where they are as many, they are all
pub given_whole : (given bits : List Bool) (x y : Inputs) → Takes (as_line given) x y → x.told 0 ≡ Some bits → length given ≡ length bits → given ≡ bits
given_whole given bits x y takes told long = given_first given bits x y takes told ∙ ap (λ n. take n bits) long ∙ take-length bits

-- of a list that has as many bits as were asked, this was seen of all its bits
pub seen_whole : (sees : List Bool → Type 0) (bits : List Bool) (n : ℕ) (x y : Inputs) → x.told 0 ≡ Some bits → n ≡ length bits → SeesAll sees n x y → sees bits
seen_whole sees bits n x y told long all = subst sees (given_whole all.given bits x y all.takes told (all.count ∙ long)) all.seen

-- ---- bits of it, one part after another

pub sees_none : (sees : List Bool → Type 0) (x : Inputs) → sees [] → SeesAll sees 0 x x
sees_none sees x none = record { given = []; count = refl; takes = takes_no_line x; seen = none }

pub sees_more : (sees sees_now : List Bool → Type 0) (n count : ℕ) (bits : List Bool) (x y z z' : Inputs) → z' ≡ z → length bits ≡ count → SeesAll sees n x y → Takes (as_line bits) y z
    → ((given : List Bool) → sees given → sees_now (given ++ bits)) → SeesAll sees_now (n + count) x z'
sees_more sees sees_now n count bits x y z z' inputs long before takes more = record {
  given = before.given ++ bits;
  count = omega (arith, length-append before.given bits, before.count, long);
  takes = subst (Takes (as_line (before.given ++ bits)) x) (sym inputs) (takes_line before.given bits x y z before.takes takes);
  seen = more before.given before.seen;
}

-- the first bits of a part, behind which a call failed
pub sees_fewer : (sees sees_now : List Bool → Type 0) (n count bits : ℕ) (part : List Bool) (x y z z' : Inputs) → z' ≡ z → length part < count → n + count ≤ bits → SeesAll sees n x y → Takes (as_line part) y z
    → ((given : List Bool) → sees given → sees_now (given ++ part)) → SeesFewer sees_now bits x z'
sees_fewer sees sees_now n count bits part x y z z' inputs less within before takes more = record {
  given = before.given ++ part;
  fewer = omega (arith, length-append before.given part, before.count, less, within);
  takes = subst (Takes (as_line (before.given ++ part)) x) (sym inputs) (takes_line before.given part x y z before.takes takes);
  seen = more before.given before.seen;
}

-- ---- puts that don't fail

-- a call after which no fault is counted didn't fail
pub not_failed : {T E : Type 0} (r : Result T E) → HasCause 0 0 r → IsOk r
not_failed (Ok x) cause = refl
not_failed (Err e) cause = absurd (omega (arith, cause))

pub at_ok : {T E P : Type 0} (r : Result T E) → IsOk r → OnOk r P → P
at_ok (Ok x) ok p = p
at_ok (Err e) ok p = absurd (cc)

-- a line that has its bits, whose receivers put nothing that fails, is left for want of memory or by a failed read
pub only_seeing : (stop : DemuxStop) → (stop ≡ Ended → ⊥) → (stop ≡ WriteFailed → ⊥) → (stop ≡ Memory) ⊎ (stop ≡ ReadFailed)
only_seeing Memory no_end no_write = inl refl
only_seeing ReadFailed no_end no_write = inr refl
only_seeing Ended no_end no_write = absurd (no_end refl)
only_seeing WriteFailed no_end no_write = absurd (no_write refl)

-- ---- what follows of what was seen

pub sees_also : (sees also : List Bool → Type 0) (n : ℕ) (x y : Inputs) → ((given : List Bool) → sees given → also given) → SeesAll sees n x y → SeesAll also n x y
sees_also sees also n x y follows all = record { given = all.given; count = all.count; takes = all.takes; seen = follows all.given all.seen }

-- ---- the monitors

-- monitors saw some events, and no others were counted
saw_all : (olds old news new : List State) (n m count : ℕ) (events : List Event) → olds ≡ old → n ≡ 0 → news ≡ new → count ≡ m → SawAll olds n events news m → SawAll old 0 events new count
saw_all olds old news new n m count events olds_are none news_are same saw =
    subst (λ c. SawAll old 0 events new c) (sym same) (subst (λ v. SawAll old 0 events v m) news_are (subst (λ k. SawAll old k events news m) none (subst (λ v. SawAll v n events news m) olds_are saw)))

-- monitors that saw events with their count, by what they, the count and the feed are called outside
pub sees_events : (events_of : List Bool → List Event) (is : List Bool → Type 0) (olds old news new : List State) (n m count bits : ℕ) (w x y z : Inputs) → olds ≡ old → n ≡ 0 → news ≡ new → count ≡ m → x ≡ w → z ≡ y
    → SeesAll (λ given. SawAll olds n (events_of given) news m × is given) bits x y → SeesAll (λ given. SawEach old (events_of given) new × (count ≡ events_counted (events_of given)) × is given) bits w z
sees_events events_of is olds old news new n m count bits w x y z olds_are none news_are same inputs inputs_now all =
    let sees : List Bool → Type 0 = λ given. SawEach old (events_of given) new × (count ≡ events_counted (events_of given)) × is given in
    subst (λ i. SeesAll sees bits i z) inputs
    (subst (SeesAll sees bits x) (sym inputs_now)
    (sees_also (λ given. SawAll olds n (events_of given) news m × is given) sees bits x y
    (λ given h. (let saw : SawAll old 0 (events_of given) new count = saw_all olds old news new n m count (events_of given) olds_are none news_are same h.0 in (saw.each, saw.count_is ∙ counted_is (events_of given), h.1))) all))
