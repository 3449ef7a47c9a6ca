-- Bits of a line that are made and put, one frame after another.
use Rattle.std.proofs.Common.{◌≡◌, ℕ, suc, ◌+◌, ◌-◌, ◌*◌, ◌^◌, ◌<◌, ◌≤◌, min, cond, Bool, true, false, List, [], ◌∷◌, ◌++◌, length, map, refl, sym, ap, subst, ◌∙◌, arith, inl, inr, Option, Some, None}
use Rattle.std.specs.Prelude.{IfSome}
use Rattle.std.specs.List.{range_with_len}
use Rattle.std.proofs.Math.ListN.{get_or-append}
use Rattle.std.proofs.Math.Nat.{suc-mul, add-mul, mul-le-mul_right}
use Rattle.std.proofs.lemmas.Bool.{cases_lt}
use Rattle.std.proofs.lemmas.List.{append-nil, length-append, map-append, get_or-append-add}
use Rattle.pdh_edge.specs.Counts.{one_more}
use Rattle.pdh_edge.specs.Files.{Rose}
use Rattle.pdh_edge.specs.Ports.{Inputs, Outputs, Puts, PutsPart, nothing, only_waiting}
use Rattle.pdh_edge.proofs.Progress.{both_counts}
use Rattle.pdh_edge.proofs.Runs.{rose_of}
use Rattle.pdh_shape.specs.declared.role.Service.{Service}
use Rattle.pdh_line.specs.Sending.{front}
use Rattle.pdh_line.specs.Sending.Mode.{Slipping}
use Rattle.pdh_line.proofs.Ranges.{range_append}
use Rattle.pdh_tx.specs.declared.tx.Tx as tx
use Rattle.pdh_tx.specs.declared.tx.TxStop.{TxStop}
use Rattle.pdh_tx.specs.declared.tx.TxStop.TheVariants.{Failed, LogFailed}
use Rattle.pdh_tx.specs.Meaning.{Plan, Supply, Meaning, StaysFree, Fits, Agrees, Makes, Stops, faults_met}
use Rattle.pdh_tx.specs.Held.{IsPart, Halts}
use Rattle.pdh_tx.specs.Making.{Gives, IsClear, IsFree, IsUneventful, MakesAll}
use Rattle.pdh_chain.specs.Muxing.{as_line, Stood, HasFrames, SayInFrames, StopsAt, MakesBits, StopsMaking, Sends, StopsSending, FailsToSend, FailsToTake, IsSendStop}
use Rattle.pdh_cbit.specs.Channel.{Sending as Channel}
use Rattle.pdh_chain.specs.Saying.{says_of, HasSaid}
use Rattle.pdh_chain.specs.Calls.{StopsFrame}
use Rattle.pdh_chain.specs.Faults.{counted_at_send_stop}
use Rattle.pdh_chain.specs.declared.sending.SendStop.{SendStop}
use Rattle.pdh_chain.specs.declared.sending.SendStop.TheVariants.{Sender, TakeFailed, WriteFailed}
use Rattle.pdh_chain.proofs.Lists.{takes_none, takes_then, puts_none, puts_then, puts_part}

-- ---- what is taken

agrees_first : (leaves : ℕ → Bool) (lists : ℕ → ℕ → Bool) (from : ℕ → ℕ) (g h : ℕ → List Bool) → Agrees leaves lists from (λ k. g k ++ h k) → Agrees leaves lists from g
agrees_first leaves lists from g h all k leaf i lt =
    sym (get_or-append (g k) (h k) false i lt) ∙ all k leaf i (omega (arith, length-append (g k) (h k)))

agrees_rest : (leaves : ℕ → Bool) (lists : ℕ → ℕ → Bool) (from to : ℕ → ℕ) (g h : ℕ → List Bool) → ((k : ℕ) → leaves k ≡ true → from k + length (g k) ≡ to k) → Agrees leaves lists from (λ k. g k ++ h k)
    → Agrees leaves lists to h
agrees_rest leaves lists from to g h exact all k leaf i lt =
    let at : from k + (length (g k) + i) ≡ to k + i = omega (arith, exact k leaf) in
    sym (get_or-append-add (g k) (h k) i false) ∙ all k leaf (length (g k) + i) (omega (arith, length-append (g k) (h k))) ∙ ap (lists k) at

pub stood_first : (m : Meaning) (says : ℕ → Service) (old : Supply → ℕ → Type 0) (plan : Plan) (a : ℕ) (g h : ℕ → List Bool) (supply : Supply) → Stood m says old plan a (λ k. g k ++ h k) supply → Stood m says old plan a g supply
stood_first m says old plan a g h supply s = record { plan_is = s.plan_is; said = s.said; stands = s.stands; agrees = agrees_first m.leaves supply.lists (m.given plan a) g h s.agrees }

stood_rest : (m : Meaning) (says : ℕ → Service) (old mid : Supply → ℕ → Type 0) (plan : Plan) (a b : ℕ) (g h : ℕ → List Bool) (x y : Inputs) (supply : Supply) → Gives m plan a b g x y → mid supply b → Stood m says old plan a (λ k. g k ++ h k) supply
    → Stood m says mid plan b h supply
stood_rest m says old mid plan a b g h x y supply p here s = record { plan_is = s.plan_is; said = s.said; stands = here; agrees = agrees_rest m.leaves supply.lists (m.given plan a) (m.given plan b) g h p.exact s.agrees }

others_then : (m : Meaning) (g h : ℕ → List Bool) → ((k : ℕ) → m.leaves k ≡ false → g k ≡ []) → ((k : ℕ) → m.leaves k ≡ false → h k ≡ []) → (k : ℕ) → m.leaves k ≡ false → g k ++ h k ≡ []
others_then m g h p q k out = ap (λ v. v ++ h k) (p k out) ∙ q k out

gives_then : (m : Meaning) (plan : Plan) (a b c : ℕ) (g h : ℕ → List Bool) (x y z : Inputs) → Gives m plan a b g x y → Gives m plan b c h y z → Gives m plan a c (λ k. g k ++ h k) x z
gives_then m plan a b c g h x y z p q = record {
  takes = takes_then g h x y z p.takes q.takes;
  others = others_then m g h p.others q.others;
  exact = λ k leaf. omega (arith, p.exact k leaf, q.exact k leaf, length-append (g k) (h k));
}

fits_then : (m : Meaning) (plan : Plan) (a b : ℕ) (g : ℕ → List Bool) (x y : Inputs) (size : ℕ → ℕ) → Gives m plan a b g x y → Fits m plan a x size → Fits m plan b y size
fits_then m plan a b g x y size p fits k leaf = omega (arith, fits k leaf, p.exact k leaf, p.takes.counts k)

free_then : (m : Meaning) (plan : Plan) (a b c : ℕ) (g : ℕ → List Bool) (x y : Inputs) → Gives m plan a b g x y → IsFree m plan a b x → IsFree m plan b c y → IsFree m plan a c x
free_then m plan a b c g x y p first rest size fits i l h = elim (cases_lt i b) [
  | inl lt ↦ first size fits i l lt
  | inr ge ↦ rest size (fits_then m plan a b g x y size p fits) i ge h
]

-- what is free from the first bit on is so from a later one on
fits_before : (m : Meaning) (plan : Plan) (a b : ℕ) (g : ℕ → List Bool) (x y : Inputs) (size : ℕ → ℕ) → Gives m plan a b g x y → Fits m plan b y size → Fits m plan a x size
fits_before m plan a b g x y size p fits k leaf = omega (arith, fits k leaf, p.exact k leaf, p.takes.counts k)

free_rest : (m : Meaning) (plan : Plan) (a b c to : ℕ) (g : ℕ → List Bool) (x y : Inputs) → Gives m plan a b g x y → a ≤ b → c ≤ to → IsFree m plan a to x → IsFree m plan b c y
free_rest m plan a b c to g x y p le most free size fits i l h = free size (fits_before m plan a b g x y size p fits) i (omega (arith, l, le)) (omega (arith, h, most))

-- ---- faults

rose_after : (a b c most : ℕ) → a ≤ b → min (b + 1) most ≤ c → min (a + 1) most ≤ c
rose_after a b c most h r = omega arith

pub rose_since : (a b c : ℕ) → a ≤ b → Rose b c → Rose a c
rose_since a b c h r = rose_after a b c (2 ^ 64 - 1) h r

-- ---- bits that are made

part_then : (line : ℕ → Bool) (xs ys : List Bool) (a b : ℕ) → a + length xs ≡ b → IsPart line xs a → IsPart line ys b → IsPart line (xs ++ ys) a
part_then line xs ys a b e p q =
    sym
    (ap (λ n. map line (range_with_len a n)) (length-append xs ys) ∙ ap (map line) (range_append a (length xs) (length ys))
    ∙ map-append line (range_with_len a (length xs)) (range_with_len (a + length xs) (length ys))
    ∙ ap (λ v. v ++ map line (range_with_len (a + length xs) (length ys))) (sym p)
    ∙ ap (λ t. xs ++ map line (range_with_len t (length ys))) e
    ∙ ap (λ v. xs ++ v) (sym q))

pub makes_none : (m : Meaning) (says : ℕ → Service) (placed : ℕ → Type 0) (old : Supply → ℕ → Type 0) (plan : Plan) (a : ℕ) (x : Inputs) → placed a → MakesBits m says placed old old plan a a [] x x
makes_none m says placed old plan a x here = record {
  given = nothing;
  gives = record { takes = takes_none x; others = λ k out. refl; exact = λ k leaf. omega arith };
  free = λ size fits i l h. absurd (omega arith);
  count = omega arith;
  place = here;
  onward = λ supply s. (refl, s.stands);
}

pub makes_one : (m : Meaning) (says : ℕ → Service) (now : Service) (placed : ℕ → Type 0) (old new : Supply → ℕ → Type 0) (plan : Plan) (a : ℕ) (bit : Bool) (x y : Inputs) → ((n : ℕ) → m.begins a ≡ Some n → says n ≡ now) → Makes m now placed old new plan a bit x y
    → MakesBits m says placed old new plan a (suc a) (bit ∷ []) x y
makes_one m says now placed old new plan a bit x y told p = record {
  given = p.given;
  gives = record { takes = p.takes; others = p.others; exact = p.exact };
  free = λ size fits i l h. (let e : i ≡ a = omega arith in ap (m.obstacle plan size) e ∙ p.free size fits);
  count = omega arith;
  place = p.place;
  onward = λ supply s.
      let both = p.onward supply s.plan_is s.stands (λ n e. s.said n ∙ told n e) s.agrees in
      (ap (λ b. b ∷ []) both.0, both.1);
}

pub makes_then : (m : Meaning) (says : ℕ → Service) (placed placed' : ℕ → Type 0) (old mid new : Supply → ℕ → Type 0) (plan : Plan) (a b c : ℕ) (xs ys : List Bool) (x y z : Inputs) → MakesBits m says placed old mid plan a b xs x y
    → MakesBits m says placed' mid new plan b c ys y z → MakesBits m says placed' old new plan a c (xs ++ ys) x z
makes_then m says placed placed' old mid new plan a b c xs ys x y z p q = record {
  given = λ k. p.given k ++ q.given k;
  gives = gives_then m plan a b c p.given q.given x y z p.gives q.gives;
  free = free_then m plan a b c p.given x y p.gives p.free q.free;
  count = omega (arith, length-append xs ys, p.count, q.count);
  place = q.place;
  onward = λ supply s.
      let first = p.onward supply (stood_first m says old plan a p.given q.given supply s) in
      let rest = q.onward supply (stood_rest m says old mid plan a b p.given q.given x y supply p.gives first.1 s) in
      (part_then (m.line supply) xs ys a b p.count first.0 rest.0, rest.1);
}

pub makes_start : (m : Meaning) (says : ℕ → Service) (placed : ℕ → Type 0) (old : Supply → ℕ → Type 0) (plan : Plan) (a b : ℕ) (bits : List Bool) (x : Inputs) → a ≡ b → bits ≡ [] → placed a → MakesBits m says placed old old plan a b bits x x
makes_start m says placed old plan a b bits x e none here =
    subst (λ b. MakesBits m says placed old old plan a b bits x x) e (subst (λ bits. MakesBits m says placed old old plan a a bits x x) (sym none) (makes_none m says placed old plan a x here))

pub makes_more : (m m' : Meaning) (says : ℕ → Service) (now : Service) (placed placed' : ℕ → Type 0) (old mid new : Supply → ℕ → Type 0) (plan : Plan) (a b c : ℕ) (bits more : List Bool) (bit : Bool) (x y z : Inputs) → m' ≡ m
    → ((n : ℕ) → m.begins b ≡ Some n → says n ≡ now) → suc b ≡ c → more ≡ bits ++ bit ∷ []
    → MakesBits m says placed old mid plan a b bits x y → Makes m' now placed' mid new plan b bit y z → MakesBits m says placed' old new plan a c more x z
makes_more m m' says now placed placed' old mid new plan a b c bits more bit x y z same told next all p q =
    let step : Makes m now placed' mid new plan b bit y z = subst (λ m. Makes m now placed' mid new plan b bit y z) same q in
    let longer : MakesBits m says placed' old new plan a (suc b) (bits ++ bit ∷ []) x z = makes_then m says placed placed' old mid new plan a b (suc b) bits (bit ∷ []) x y z p (makes_one m says now placed' mid new plan b bit y z told step) in
    subst (λ to. MakesBits m says placed' old new plan a to more x z) next (subst (λ bits. MakesBits m says placed' old new plan a (suc b) bits x z) (sym all) longer)

-- ---- a stop of the sender

stops_at : (m : Meaning) (plan : Plan) (a : ℕ) (stop : TxStop) (x y : Inputs) (faults now : ℕ) (s : Stops m plan a stop x y faults now) → (stop ≡ LogFailed → plan.mode ≡ Slipping) → StopsAt m plan a a s.given stop x y faults now
stops_at m plan a stop x y faults now s slipping = record {
  takes = s.takes;
  others = s.others;
  no_fewer = λ k leaf. omega arith;
  no_more = s.no_more;
  free = λ size fits i l h. absurd (omega arith);
  used_up = s.used_up;
  slipping = slipping;
  met = s.met;
}

stops_at_then : (m : Meaning) (plan : Plan) (a b made : ℕ) (g h : ℕ → List Bool) (stop : TxStop) (x y z : Inputs) (faults later now : ℕ) → Gives m plan a b g x y → IsFree m plan a b x → later ≡ faults → StopsAt m plan b made h stop y z later now
    → StopsAt m plan a made (λ k. g k ++ h k) stop x z faults now
stops_at_then m plan a b made g h stop x y z faults later now p free le s = record {
  takes = takes_then g h x y z p.takes s.takes;
  others = others_then m g h p.others s.others;
  no_fewer = λ k leaf. omega (arith, p.exact k leaf, s.no_fewer k leaf, length-append (g k) (h k));
  no_more = λ k leaf. omega (arith, p.exact k leaf, s.no_more k leaf, length-append (g k) (h k));
  free = free_then m plan a b made g x y p free s.free;
  used_up = s.used_up;
  slipping = s.slipping;
  met = record {
    counted = s.met.counted ∙ ap (faults_met stop) le;
    is_first = λ e size fits. s.met.is_first e size (fits_then m plan a b g x y size p fits);
  };
}

pub stops_making : (m m' : Meaning) (says : ℕ → Service) (placed : ℕ → Type 0) (old mid : Supply → ℕ → Type 0) (plan : Plan) (a b to : ℕ) (bits : List Bool) (stop : TxStop) (x y z : Inputs) (faults later now : ℕ) → MakesBits m says placed old mid plan a b bits x y
    → m' ≡ m → later ≡ faults → b < to → (stop ≡ LogFailed → plan.mode ≡ Slipping) → Stops m' plan b stop y z later now → StopsMaking m plan a to stop x z faults now
stops_making m m' says placed old mid plan a b to bits stop x y z faults later now p same le lt slipping stops = (let s : Stops m plan b stop y z later now = subst (λ m. Stops m plan b stop y z later now) same stops in record {
  made = b;
  begun = omega (arith, p.count);
  within = lt;
  given = λ k. p.given k ++ s.given k;
  at = stops_at_then m plan a b b p.given s.given stop x y z faults later now p.gives p.free le (stops_at m plan b stop y z later now s slipping);
})

-- ---- whole frames

-- so many bits were made from the first on, and all of them put
pub record Sending (m : Meaning) (says : ℕ → Service) (placed : ℕ → Type 0) (old new : Supply → ℕ → Type 0) (plan : Plan) (to : ℕ) (inputs inputs_now : Inputs) (outputs outputs_now : Outputs) : Type 0 where
  pub bits : List Bool
  pub makes : MakesBits m says placed old new plan 0 to bits inputs inputs_now
  pub puts : Puts (as_line bits) outputs outputs_now

front_is : (line : ℕ → Bool) (bits : List Bool) (to : ℕ) → 0 + length bits ≡ to → IsPart line bits 0 → bits ≡ front line to
front_is line bits to e p = (let n : length bits ≡ to = omega arith in p ∙ ap (λ n. map line (range_with_len 0 n)) n)

pub sending_none : (m : Meaning) (says : ℕ → Service) (placed : ℕ → Type 0) (old : Supply → ℕ → Type 0) (plan : Plan) (to : ℕ) (x : Inputs) (outputs : Outputs) → 0 ≡ to → placed 0 → Sending m says placed old old plan to x x outputs outputs
sending_none m says placed old plan to x outputs e here = record { bits = []; makes = makes_start m says placed old plan 0 to [] x e refl here; puts = puts_none outputs }

-- A frame more. The sender leaves the outputs, and putting bits leaves the inputs.
pub sending_more : (m m' : Meaning) (says : ℕ → Service) (placed placed' : ℕ → Type 0) (old mid new : Supply → ℕ → Type 0) (plan : Plan) (b c to : ℕ) (more more' : List Bool) (x y z w : Inputs) (o o' o'' p : Outputs) → m' ≡ m → more' ≡ more → w ≡ z → o'' ≡ o' → c ≡ to
    → Sending m says placed old mid plan b x y o o' → MakesBits m' says placed' mid new plan b c more y z → Puts (as_line more') o'' p → Sending m says placed' old new plan to x w o p
sending_more m m' says placed placed' old mid new plan b c to more more' x y z w o o' o'' p same bits rest left end s makes puts =
    let step : MakesBits m says placed' mid new plan b c more y z = subst (λ m. MakesBits m says placed' mid new plan b c more y z) same makes in
    let all : MakesBits m says placed' old new plan 0 c (s.bits ++ more) x z = makes_then m says placed placed' old mid new plan 0 b c s.bits more x y z s.makes step in
    let here : Puts (as_line more) o' p = subst (λ o. Puts (as_line more) o p) left (subst (λ bits. Puts (as_line bits) o'' p) bits puts) in
    record {
      bits = s.bits ++ more;
      makes = subst (λ to. MakesBits m says placed' old new plan 0 to (s.bits ++ more) x w) end (subst (λ w. MakesBits m says placed' old new plan 0 c (s.bits ++ more) x w) (sym rest) all);
      puts = puts_then s.bits more o o' p s.puts here;
    }

-- the sender was told what the next frame says
sending_set : (m : Meaning) (says : ℕ → Service) (placed placed' : ℕ → Type 0) (old mid mid' : Supply → ℕ → Type 0) (plan : Plan) (to : ℕ) (x y : Inputs) (o o' : Outputs) → ((n : ℕ) → placed n → placed' n)
    → ((supply : Supply) (n : ℕ) → mid supply n → mid' supply n) → Sending m says placed old mid plan to x y o o' → Sending m says placed' old mid' plan to x y o o'
sending_set m says placed placed' old mid mid' plan to x y o o' place held s = record {
  bits = s.bits;
  makes = record {
    given = s.makes.given;
    gives = s.makes.gives;
    free = s.makes.free;
    count = s.makes.count;
    place = place to s.makes.place;
    onward = λ supply st. (let both = s.makes.onward supply st in (both.0, held supply to both.1));
  };
  puts = s.puts;
}

sending_puts : (m : Meaning) (says : ℕ → Service) (placed : ℕ → Type 0) (old new : Supply → ℕ → Type 0) (plan : Plan) (to : ℕ) (x y : Inputs) (o o' : Outputs) (p : Sending m says placed old new plan to x y o o') (supply : Supply) → Stood m says old plan 0 p.makes.given supply
    → Puts (as_line (front (m.line supply) to)) o o'
sending_puts m says placed old new plan to x y o o' p supply s =
    subst (λ bits. Puts (as_line bits) o o') (front_is (m.line supply) p.bits to p.makes.count (p.makes.onward supply s).0) p.puts

pub sending_sends : (m : Meaning) (says : ℕ → Service) (placed : ℕ → Type 0) (old new : Supply → ℕ → Type 0) (plan : Plan) (b to : ℕ) (x y : Inputs) (o o' : Outputs) → b ≡ to → Sending m says placed old new plan b x y o o' → Sends m says placed old new plan to x y o o'
sending_sends m says placed old new plan b to x y o o' e sending = (let p : Sending m says placed old new plan to x y o o' = subst (λ to. Sending m says placed old new plan to x y o o') e sending in record {
  given = p.makes.given;
  gives = p.makes.gives;
  free = p.makes.free;
  place = p.makes.place;
  puts = sending_puts m says placed old new plan to x y o o' p;
  onward = λ supply s. (p.makes.onward supply s).1;
})

-- the sender stops in a frame, and leaves the outputs
pub sending_stops : (m m' : Meaning) (says : ℕ → Service) (placed : ℕ → Type 0) (old mid : Supply → ℕ → Type 0) (plan : Plan) (len frames n : ℕ) (stop : TxStop) (x y z : Inputs) (o o' o'' : Outputs) (faults later now : ℕ) → m' ≡ m → o'' ≡ o' → n < frames
    → later ≡ faults → Sending m says placed old mid plan (n * len) x y o o' → StopsMaking m' plan (n * len) (n * len + len) stop y z later now → StopsSending m says old plan len frames stop x z o o'' faults now
sending_stops m m' says placed old mid plan len frames n stop x y z o o' o'' faults later now same left lt le p stops = (let s : StopsMaking m plan (n * len) (n * len + len) stop y z later now = subst (λ m. StopsMaking m plan (n * len) (n * len + len) stop y z later now) same stops in record {
  whole = n;
  fewer = lt;
  made = s.made;
  begun = s.begun;
  within = omega (arith, suc-mul n len, s.within);
  given = λ k. p.makes.given k ++ s.given k;
  at = stops_at_then m plan 0 (n * len) s.made p.makes.given s.given stop x y z faults later now p.makes.gives p.makes.free le s.at;
  puts = λ supply st. subst (Puts (as_line (front (m.line supply) (n * len))) o) (sym left)
      (sending_puts m says placed old mid plan (n * len) x y o o' p supply (stood_first m says old plan 0 p.makes.given s.given supply st));
})

-- a bit of the next frames, so many, can't be put
pub sending_fails : (m m' : Meaning) (says : ℕ → Service) (placed placed' : ℕ → Type 0) (old mid new : Supply → ℕ → Type 0) (plan : Plan) (len frames n count last : ℕ) (more more' : List Bool) (x y z w : Inputs) (o o' o'' p : Outputs) (faults later now : ℕ) → m' ≡ m → more' ≡ more
    → w ≡ z → o'' ≡ o' → suc last ≡ n + count → last < frames → faults ≤ later → Sending m says placed old mid plan (n * len) x y o o' → MakesBits m' says placed' mid new plan (n * len) (n * len + count * len) more y z → PutsPart (as_line more') o'' p → Rose later now
    → FailsToSend m says old plan len frames x w o p faults now
sending_fails m m' says placed placed' old mid new plan len frames n count last more more' x y z w o o' o'' p faults later now same bits rest left ends lt le s makes puts rose =
    let end : suc last * len ≡ n * len + count * len = ap (λ v. v * len) ends ∙ add-mul n count len in
    let step : MakesBits m says placed' mid new plan (n * len) (n * len + count * len) more y z = subst (λ m. MakesBits m says placed' mid new plan (n * len) (n * len + count * len) more y z) same makes in
    let whole : MakesBits m says placed' old new plan 0 (n * len + count * len) (s.bits ++ more) x z = makes_then m says placed placed' old mid new plan 0 (n * len) (n * len + count * len) s.bits more x y z s.makes step in
    let all : MakesBits m says placed' old new plan 0 (suc last * len) (s.bits ++ more) x w =
    subst (λ to. MakesBits m says placed' old new plan 0 to (s.bits ++ more) x w) (sym end) (subst (λ w. MakesBits m says placed' old new plan 0 (n * len + count * len) (s.bits ++ more) x w) (sym rest) whole) in
    let here : PutsPart (as_line more) o' p = subst (λ o. PutsPart (as_line more) o p) left (subst (λ bits. PutsPart (as_line bits) o'' p) bits puts) in
    let part : PutsPart (as_line (s.bits ++ more)) o p = puts_part s.bits more (s.bits ++ more) o o' p s.puts here ([], sym (append-nil (s.bits ++ more))) in
    record {
      whole = last;
      fewer = lt;
      given = all.given;
      gives = all.gives;
      free = all.free;
      rose = rose_since faults later now le rose;
      puts = λ supply st. subst (λ bits. PutsPart (as_line bits) o p) (front_is (m.line supply) (s.bits ++ more) (suc last * len) all.count (all.onward supply st).0) part;
    }

pub frames_end : (n count len : ℕ) → n * len + count * len ≡ (n + count) * len
frames_end n count len = sym (add-mul n count len)

-- a frame before the end of so many ends by then
pub frames_upto : (n frames len : ℕ) → n < frames → n * len + len ≤ frames * len
frames_upto n frames len h = omega (arith, mul-le-mul_right len h, suc-mul n len)

-- and so many frames before it do
pub frames_within : (n count frames len : ℕ) → n + count ≤ frames → n * len + count * len ≤ frames * len
frames_within n count frames len h = omega (arith, mul-le-mul_right len h, add-mul n count len)

-- ---- frames in whose way nothing stands

-- what is free is so up to an earlier place
pub free_first : (m : Meaning) (plan : Plan) (a b to : ℕ) (x : Inputs) → b ≤ to → IsUneventful m plan a to x → IsUneventful m plan a b x
free_first m plan a b to x most free = record {
  free = λ size fits y l h. free.free size fits y l (omega (arith, h, most));
  no_slip = λ y l h. free.no_slip y l (omega (arith, h, most));
}

-- the lists hold some bits in all
pub free_clear : (m : Meaning) (plan : Plan) (a b : ℕ) (x : Inputs) → IsUneventful m plan a b x → IsClear m plan a b x
free_clear m plan a b x free = record {
  size = λ k. m.given plan a k + x.left k;
  fits = λ k leaf. refl;
  clear = free.free (λ k. m.given plan a k + x.left k) (λ k leaf. refl);
  no_slip = free.no_slip;
}

-- nothing is known to stand in the way of no bits
pub free_none : (m : Meaning) (plan : Plan) (a b : ℕ) (x : Inputs) → b ≤ a → IsUneventful m plan a b x
free_none m plan a b x none = record {
  free = λ size fits y l h. absurd (omega (arith, none, l, h));
  no_slip = λ y l h. absurd (omega (arith, none, l, h));
}

-- what is free is so by lists that hold as many bits
pub free_same : (m : Meaning) (plan : Plan) (a b : ℕ) (x y : Inputs) → ((k : ℕ) → y.left k ≡ x.left k) → IsUneventful m plan a b x → IsUneventful m plan a b y
free_same m plan a b x y same free = record {
  free = λ size fits. free.free size (λ k leaf. omega (arith, fits k leaf, same k));
  no_slip = free.no_slip;
}

-- and by lists of which only some bits are known to be enough
pub free_more : (m : Meaning) (plan : Plan) (a b : ℕ) (x : Inputs) (waits : ℕ → ℕ) → StaysFree m → ((k : ℕ) → waits k ≤ x.left k) → IsUneventful m plan a b (only_waiting x waits) → IsUneventful m plan a b x
free_more m plan a b x waits longer within free = record {
  free = λ size fits y l h.
      let few : ℕ → ℕ = λ k. cond (m.leaves k) (m.given plan a k + waits k) (size k) in
      let fewer : (k : ℕ) → few k ≤ size k = λ k. less (m.leaves k) k (λ leaf. omega (arith, fits k leaf, within k)) in
      longer plan few size y fewer (free.free few (λ k leaf. ap (λ b. cond b (m.given plan a k + waits k) (size k)) leaf) y l h);
  no_slip = free.no_slip;
}
  where
    less : {size few : ℕ} (leaf : Bool) (k : ℕ) → (leaf ≡ true → few ≤ size) → cond leaf few size ≤ size
    less true k few = few refl
    less false k few = omega arith

-- behind bits that took some of what waits, what was free in it is so still
pub free_behind : (m : Meaning) (now : Service) (placed : ℕ → Type 0) (old new : Supply → ℕ → Type 0) (plan : Plan) (a b to : ℕ) (bits : List Bool) (x y : Inputs) → a ≤ b → MakesAll m now placed old new plan a b bits x y → IsUneventful m plan a to x → IsUneventful m plan b to y
free_behind m now placed old new plan a b to bits x y le makes free = record {
  free = free_rest m plan a b to to makes.given x y makes.gives le (omega arith) free.free;
  no_slip = λ i l h. free.no_slip i (omega (arith, l, le)) h;
}

-- behind a frame that was made, what was free is so still
pub free_after : (m : Meaning) (says : ℕ → Service) (placed : ℕ → Type 0) (old new : Supply → ℕ → Type 0) (plan : Plan) (a b to clear len : ℕ) (bits : List Bool) (x y : Inputs) → MakesBits m says placed old new plan a b bits x y
    → b ≡ a + len → to ≡ b + (clear - len) → IsUneventful m plan a (a + clear) x → IsUneventful m plan b to y
free_after m says placed old new plan a b to clear len bits x y makes end last free = elim (cases_lt clear len) [
  | inl less ↦ free_none m plan b to y (omega (arith, last, less))
  | inr more ↦ record {
    free = free_rest m plan a b to (a + clear) makes.given x y makes.gives (omega (arith, end)) (omega (arith, end, last, more)) free.free;
    no_slip = λ i l h. free.no_slip i (omega (arith, l, end)) (omega (arith, h, end, last, more));
  }
]

-- a frame that was made at once is a frame that was made
pub makes_next : (m m' : Meaning) (says : ℕ → Service) (now : Service) (placed : ℕ → Type 0) (old new : Supply → ℕ → Type 0) (plan : Plan) (a len l : ℕ) (bits : List Bool) (x y : Inputs) → m' ≡ m → l ≡ len → SayInFrames m says now a (a + len)
    → IsFree m plan a (a + len) x → MakesAll m' now placed old new plan a (a + l) bits x y → MakesBits m says placed old new plan a (a + len) bits x y
makes_next m m' says now placed old new plan a len l bits x y same long told free makes =
    let p : MakesAll m now placed old new plan a (a + len) bits x y = subst (λ l. MakesAll m now placed old new plan a (a + l) bits x y) long (subst (λ m. MakesAll m now placed old new plan a (a + l) bits x y) same makes) in
    record {
      given = p.given;
      gives = p.gives;
      free = free;
      count = p.count;
      place = p.place;
      onward = λ supply s.
          p.onward supply (record { plan_is = s.plan_is; said = λ y l h n e. s.said n ∙ told y n l h e; stands = s.stands; agrees = s.agrees });
    }

-- the frames that begin at such a place and before their end say what so many frames from there on say
says_in_frames : (m : Meaning) (says : ℕ → Service) (now : Service) (len whole count : ℕ) → HasFrames m len → ((n : ℕ) → whole ≤ n → n < whole + count → says n ≡ now) → SayInFrames m says now (whole * len) (whole * len + count * len)
says_in_frames m says now len whole count frames alike y n le lt begins =
    let at : y ≡ n * len = frames y n begins in
    alike n (from (omega (arith, at, le)) (omega (arith, at, lt))) (upto (omega (arith, at, lt)))
  where
    from : whole * len ≤ n * len → n * len < whole * len + count * len → whole ≤ n
    from l h = elim (cases_lt n whole) [
      | inl less ↦ absurd (omega (arith, l, h, mul-le-mul_right len less, suc-mul n len, some))
      | inr more ↦ more
    ]
      where
        some : len ≡ 0 → ⊥
        some empty = absurd (omega (arith, h, ap (λ v. n * v) empty, ap (λ v. whole * v) empty, ap (λ v. count * v) empty))

    upto : n * len < whole * len + count * len → n < whole + count
    upto h = elim (cases_lt n (whole + count)) [
      | inl less ↦ less
      | inr more ↦ absurd (omega (arith, h, mul-le-mul_right len more, add-mul whole count len))
    ]

-- frames that are made one by one where there is a code
pub alone_of : (feac : Option ℕ) (most count : ℕ) → IfSome feac (λ code. most ≡ 1) → 0 < count → count ≤ most → IfSome feac (λ code. count ≡ 1)
alone_of None most count is some few = tt
alone_of (Some code) most count is some few = omega (arith, is, some, few)

-- so many frames of those that wait are enough bits
pub enough_for : (waiting count len clear : ℕ) → count ≤ waiting → waiting * len ≤ clear → count * len ≤ clear
enough_for waiting count len clear few h = omega (arith, h, mul-le-mul_right len few)

-- those left behind them are
pub rest_enough : (waiting count len clear : ℕ) → waiting * len ≤ clear → (waiting - count) * len ≤ clear - count * len
rest_enough waiting count len clear h = elim (cases_lt waiting count) [
  | inl less ↦ let none : waiting - count ≡ 0 = omega (arith, less) in omega (arith, ap (λ v. v * len) none)
  | inr more ↦
      let all : waiting ≡ (waiting - count) + count = omega (arith, more) in
      omega (arith, h, ap (λ v. v * len) all ∙ add-mul (waiting - count) count len)
]

-- and end where all did
pub rest_ends : (n waiting count len : ℕ) → count ≤ waiting → n * len + waiting * len ≡ (n + count) * len + (waiting - count) * len
rest_ends n waiting count len few =
    let all : waiting ≡ count + (waiting - count) = omega (arith, few) in
    omega (arith, ap (λ v. v * len) all ∙ add-mul count (waiting - count) len, add-mul n count len)

-- what one frame says of a code, or any number of frames of none, is the same
pub said_alike : (feac : Option ℕ) (whole count : ℕ) (now : Service) → now ≡ says_of feac whole → IfSome feac (λ code. count ≡ 1) → (n : ℕ) → whole ≤ n → n < whole + count → says_of feac n ≡ now
said_alike None whole count now is alone n l h = sym is
said_alike (Some code) whole count now is alone n l h = (let here : n ≡ whole = omega (arith, l, h, alone) in ap (says_of (Some code)) here ∙ sym is)

pub said_upto : (channel : Option Channel) (feac : Option ℕ) (n count : ℕ) → IfSome feac (λ code. count ≡ 1) → HasSaid channel feac (n + 1) → HasSaid channel feac (n + count)
said_upto None None n count alone said = tt
said_upto None (Some code) n count alone said = absurd said
said_upto (Some sender) None n count alone said = absurd said
said_upto (Some sender) (Some code) n count alone said = subst (λ (v : ℕ). HasSaid (Some sender) (Some code) (n + v)) (sym alone) said

-- the sender was told what its next frames say, so many
pub record IsTold {T : Type 0} (sender : tx.Ghosts T) (t now : T) (plan : Plan) (says : ℕ → Service) (len whole count : ℕ) (x y : Inputs) (o o' : Outputs) : Type 0 where
  pub same : sender.meaning now ≡ sender.meaning t
  pub sending : Sending (sender.meaning t) says (sender.stands_at now plan) (sender.stands_for t) (sender.stands_for now) plan (whole * len) x y o o'
  pub told : (m : Meaning) → m ≡ sender.meaning t → SayInFrames m says (sender.says now) (whole * len) (whole * len + count * len)

pub is_told : {T : Type 0} (sender : tx.Ghosts T) (t last now : T) (plan : Plan) (says : ℕ → Service) (len whole count : ℕ) (x y : Inputs) (o o' : Outputs) → HasFrames (sender.meaning t) len → sender.meaning last ≡ sender.meaning t → sender.meaning now ≡ sender.meaning last
    → ((n : ℕ) → sender.stands_at last plan n → sender.stands_at now plan n) → ((supply : Supply) (n : ℕ) → sender.stands_for last supply n → sender.stands_for now supply n) → ((n : ℕ) → whole ≤ n → n < whole + count → says n ≡ sender.says now)
    → Sending (sender.meaning t) says (sender.stands_at last plan) (sender.stands_for t) (sender.stands_for last) plan (whole * len) x y o o' → IsTold sender t now plan says len whole count x y o o'
is_told sender t last now plan says len whole count x y o o' frames same set placed held alike sending = record {
  same = set ∙ same;
  sending = sending_set (sender.meaning t) says (sender.stands_at last plan) (sender.stands_at now plan) (sender.stands_for t) (sender.stands_for last) (sender.stands_for now) plan (whole * len) x y o o' placed held sending;
  told = λ m means. says_in_frames m says (sender.says now) len whole count (subst (λ (m : Meaning). HasFrames m len) (sym means) frames) alike;
}

-- a call for bits failed in a frame, and left the outputs
pub sending_halts : (m m' : Meaning) (says : ℕ → Service) (placed : ℕ → Type 0) (old mid : Supply → ℕ → Type 0) (plan : Plan) (len frames n : ℕ) (stop : TxStop) (x y z : Inputs) (o o' o'' : Outputs) (faults later now : ℕ) → m' ≡ m → o'' ≡ o' → n < frames
    → faults ≤ later → Sending m says placed old mid plan (n * len) x y o o' → Halts m' plan (n * len) (n * len + len) stop y z → Rose later now → FailsToTake m says old plan len frames x z o o'' faults now
sending_halts m m' says placed old mid plan len frames n stop x y z o o' o'' faults later now same left lt le p halts rose = (let h : Halts m plan (n * len) (n * len + len) stop y z = subst (λ m. Halts m plan (n * len) (n * len + len) stop y z) same halts in record {
  whole = n;
  fewer = lt;
  given = λ k. p.makes.given k ++ h.given k;
  takes = takes_then p.makes.given h.given x y z p.makes.gives.takes h.takes;
  others = others_then m p.makes.given h.given p.makes.gives.others h.others;
  no_fewer = λ k leaf. omega (arith, p.makes.gives.exact k leaf, length-append (p.makes.given k) (h.given k));
  no_more = λ k leaf. (let end : m.given plan (n * len + len) k ≡ m.given plan (suc n * len) k = ap (λ t. m.given plan t k) (sym (suc-mul n len)) in omega (arith, p.makes.gives.exact k leaf, length-append (p.makes.given k) (h.given k), h.no_more k leaf, end));
  free = p.makes.free;
  rose = rose_since faults later now le rose;
  puts = λ supply st. subst (Puts (as_line (front (m.line supply) (n * len))) o) (sym left)
      (sending_puts m says placed old mid plan (n * len) x y o o' p supply (stood_first m says old plan 0 p.makes.given h.given supply st));
})

-- ---- why a frame isn't made

module _ {T : Type 0} (sender : tx.Ghosts T) (t now : T) (plan : Plan) (says : ℕ → Service) (old mid : Supply → ℕ → Type 0) (len frames n : ℕ) (x y z : Inputs) (o o' : Outputs) (same : sender.meaning now ≡ sender.meaning t)
    (sending : Sending (sender.meaning t) says (sender.stands_at now plan) old mid plan (n * len) x y o o') where
  -- frames are then not all sent
  pub frame_ends : (stop : SendStop) (o'' : Outputs) (reads later reads_now writes writes_now : ℕ) → o'' ≡ o' → n < frames → later ≡ reads → StopsFrame sender now plan len y z later reads_now stop
      → IsSendStop (sender.meaning t) says old plan len frames x z o o'' reads reads_now writes writes_now stop
  frame_ends (Sender stop) o'' reads later reads_now writes writes_now left fewer le stops =
      sending_stops (sender.meaning t) (sender.meaning now) says _ _ _ plan len frames n stop x y z o o' o'' reads later reads_now same left fewer le sending (stops (n * len) sending.makes.place)
  frame_ends TakeFailed o'' reads later reads_now writes writes_now left fewer le stops =
      sending_halts (sender.meaning t) (sender.meaning now) says _ _ _ plan len frames n Failed x y z o o' o'' reads later reads_now same left fewer (omega (arith, le)) sending (stops.0 (n * len) sending.makes.place) (rose_of _ _ stops.1)
  frame_ends WriteFailed o'' reads later reads_now writes writes_now left fewer le stops = absurd stops

  -- and a fault is counted where a call failed
  pub frame_counts : (stop : SendStop) (reads later reads_now writes writes_now : ℕ) → later ≡ reads → writes_now ≡ writes → StopsFrame sender now plan len y z later reads_now stop
      → ◌≡◌ {A = ℕ × ℕ} (reads_now, writes_now) (counted_at_send_stop stop (reads, writes))
  frame_counts (Sender stop) reads later reads_now writes writes_now le left stops = both_counts ((stops (n * len) sending.makes.place).at.met.counted ∙ ap (faults_met stop) le) left
  frame_counts TakeFailed reads later reads_now writes writes_now le left stops = both_counts (stops.1 ∙ ap one_more le) left
  frame_counts WriteFailed reads later reads_now writes writes_now le left stops = absurd stops
