-- What a sender of a whole chain sends is what `mux` puts, and why it stops.
use Rattle.std.proofs.Common.{◌≡◌, ℕ, zero, suc, ◌∷◌, ◌+◌, ◌*◌, ◌/◌, ◌%◌, ◌<◌, ◌≤◌, ◌⊎◌, Bool, true, false, cond, eqb, List, [], ◌++◌, length, Some, None, Option, refl, ap, sym, ◌∙◌, subst, inl, inr, arith, slice_get}
use Rattle.std.specs.Prelude.{flat_map, All, IsTrue}
use Rattle.std.specs.List.{slice_index_or, range_with_len}
use Rattle.std.proofs.lemmas.Bool.{cases_Bool, cases_eq, eq-eqb, ne_eqb}
use Rattle.std.proofs.lemmas.Nat.{div-mul-add, mod-mul-add, div-add-mod'}
use Rattle.std.proofs.Math.Nat.{mul-le-mul_right}
use Rattle.pdh_edge.specs.Files.{Rose}
use Rattle.pdh_edge.proofs.Runs.{rose_of}
use Rattle.pdh_edge.specs.Ports.{Inputs, Outputs, Puts, PutsPart, PrefixOf, before}
use Rattle.pdh_shape.specs.declared.place.Path.{Path}
use Rattle.pdh_shape.specs.declared.place.Place.{Place}
use Rattle.pdh_shape.specs.declared.place.Level.{Level}
use Rattle.pdh_shape.specs.declared.role.Service.{Service}
use Rattle.pdh_shape.specs.Frame.{FrameShape, IsFrame}
use Rattle.pdh_shape.specs.Tributary.{reads_below}
use Rattle.pdh_line.specs.Sending.Mode.{Plain, Slipping}
use Rattle.pdh_line.specs.Sending.{Mode, front, given}
use Rattle.pdh_line.specs.Events.{Event, Kind}
use Rattle.pdh_line.specs.Events.Kind.{Overflow as OverflowKind, Underflow as UnderflowKind}
use Rattle.pdh_line.proofs.Ranges.{map-range_same_on}
use Rattle.pdh_line.proofs.SameLines.{frame-is}
use Rattle.pdh_line.proofs.SendingLaws.{given-stores, given-locked}
use Rattle.pdh_nesting.specs.Chains.{width, top_len, AreFrames}
use Rattle.pdh_line.specs.Nodes.{child, Counts, given_at}
use Rattle.pdh_nesting.specs.Sending.{given_below}
use Rattle.pdh_nesting.specs.Events.{events_in, events_below, first_event}
use Rattle.pdh_nesting.proofs.Nodes.{begun-suc, given-grows}
use Rattle.pdh_nesting.proofs.EventParts.{events_below-none}
use Rattle.pdh_tx.specs.declared.tx.TxStop.{TxStop}
use Rattle.pdh_tx.specs.declared.tx.TxStop.TheVariants.{Overflow, Underflow, NoFrame, Failed, Ended, LogFailed}
use Rattle.pdh_tx.specs.Meaning.{Plan, Supply, Meaning, IsNodeOf, HoldsAll, Fits, is_failed}
use Rattle.pdh_tx.specs.Making.{IsFree}
use Rattle.pdh_chain.specs.declared.stop.MuxStop.{MuxStop}
use Rattle.pdh_line.specs.Paths.{top}
use Rattle.pdh_chain.specs.declared.stop.MuxStop.TheVariants.{Memory as MuxMemory, Event as MuxEvent, NoFrame as MuxNoFrame, Ended as MuxEnded, ReadFailed as MuxReadFailed, WriteFailed as MuxWriteFailed, LogFailed as MuxLogFailed}
use Rattle.pdh_chain.specs.Trees.{sender_of, AreLevelsOf}
use Rattle.pdh_chain.specs.Muxing.{as_line, Stood, HasFrames, Sends, StopsSending, FailsToSend, FailsToTake}
use Rattle.pdh_chain.specs.Muxes.{plan_with, bits_of, frames_of_line, BeginWith, IsClear, PutsFrames, PutsFewer, PutsPrefix, Muxes, StopsFirst, StopsAtEvent, LacksFrames, LacksBelow, IsMuxStop, is_overflow, place_of, stop_at, mux_stop}
use Rattle.pdh_chain.proofs.Numbered.{IsAt}
use Rattle.pdh_chain.proofs.TreeLeaves.{leaf_known, leaf_in, leaf_out}
use Rattle.pdh_chain.proofs.Senders.{senders, leaf-is, line_is, given_is, nodes_in}
use Rattle.pdh_chain.proofs.Stops.{stop_of_kind, IsFirst, Tells, first_get}
use Rattle.pdh_chain.proofs.SlippingStops.{Only, chain_stops}
use Rattle.pdh_chain.proofs.SenderStops.{Other, chain_tells, given_below-grows, lacks-grows}

-- the sender of a whole chain
abbrev pub chain_sender : List FrameShape → Meaning
chain_sender shapes = sender_of shapes top 0

-- a schedule, lists, and what the frames say
abbrev pub supply_with : Plan → (ℕ → Service) → (ℕ → List Bool) → Supply
supply_with plan says lists = record { plan = plan; lists = bits_of lists; says = says }

-- ---- its leaves

is_leaf : (shapes : List FrameShape) (k : ℕ) → k < width shapes → (chain_sender shapes).leaves k ≡ true
is_leaf shapes k known =
    let number : k ≡ 0 + k = omega arith in
    ap (λ i. (chain_sender shapes).leaves i) number ∙ leaf_known senders shapes top 0 k known

is_held : (shapes : List FrameShape) (k : ℕ) → (chain_sender shapes).leaves k ≡ true → k < width shapes
is_held shapes k is = leaf_in senders shapes top k is

pub leaves_held : (shapes : List FrameShape) (m : Meaning) (inputs : Inputs) → m ≡ chain_sender shapes → ((k : ℕ) → k < width shapes → IsTrue (inputs.holds k)) → HoldsAll m.leaves inputs
leaves_held shapes m inputs same held k is = held k (is_held shapes k (sym (ap (λ (m : Meaning). m.leaves k) same) ∙ is))

-- ---- its nodes

pub nodes_held : (shapes : List FrameShape) (levels : List Level) (m : Meaning) → m ≡ chain_sender shapes → IsAt shapes top [] → AreLevelsOf shapes levels → All (IsNodeOf levels) m.nodes
nodes_held shapes levels m same at are = subst (λ (m : Meaning). All (IsNodeOf levels) m.nodes) (sym same) (nodes_in levels levels shapes top [] 0 at are (λ more. refl))

-- ---- its frames

begins-is : (s : FrameShape) (below : List FrameShape) (y : ℕ) → (chain_sender (s ∷ below)).begins y ≡ cond (eqb (y % s.len) 0) (Some (y / s.len)) None
unfolding sender_of
begins-is s below y = elim (cases_Bool (eqb s.copies 0)) [ inl locked ↦ rw locked refl | inr stores ↦ rw stores refl ]

frames_begin : (len : ℕ) → 0 < len → (y n : ℕ) → cond (eqb (y % len) 0) (Some (y / len)) None ≡ Some n → y ≡ n * len
frames_begin len some y n = elim (cases_eq (y % len) 0) [
  | inl first ↦ λ begins.
      let here : Some (y / len) ≡ Some n = sym (ap (λ b. cond b (Some (y / len)) None) (eq-eqb (y % len) 0 first)) ∙ begins in
      let frame : y / len ≡ n = cc in
      sym (div-add-mod' y len) ∙ ap (λ q. q * len + y % len) frame ∙ omega (arith, first)
  | inr other ↦ λ begins. absurd (let none : None ≡ Some n = sym (ap (λ b. cond b (Some (y / len)) None) (ne_eqb (y % len) 0 other)) ∙ begins in cc)
]

-- a chain's top begins a frame after so many bits
pub frames_held : (shapes : List FrameShape) (m : Meaning) (len : ℕ) → AreFrames shapes → m ≡ chain_sender shapes → top_len shapes ≡ len → HasFrames m len
frames_held shapes m len are same whole = subst (λ len. HasFrames m len) whole (subst (λ m. HasFrames m (top_len shapes)) (sym same) (go shapes are))
  where
    go : (shapes : List FrameShape) → AreFrames shapes → HasFrames (chain_sender shapes) (top_len shapes)
    go [] are y n begins = absurd (let none : None ≡ Some n = sym (ap (λ (m : Meaning). m.begins y) (leaf-is top 0)) ∙ begins in cc)
    go (s ∷ below) are y n begins = frames_begin s.len are.0.some_slots y n (sym (begins-is s below y) ∙ begins)

-- ---- the first event of so many bits

given_zero : (s : FrameShape) (j : ℕ) (counts : ℕ → ℕ) → IsFrame s → given s j counts 0 ≡ 0
given_zero s j counts frame = elim (cases_Bool (eqb s.copies 0)) [
  | inl locked ↦
      let q : 0 / s.len ≡ 0 = omega (arith, div-mul-add 0 s.len 0 frame.some_slots) in
      let r : 0 % s.len ≡ 0 = omega (arith, mod-mul-add 0 s.len 0 frame.some_slots) in
      given-locked s j counts 0 locked ∙ ap (λ n. n * s.low + reads_below s j false (0 % s.len)) q ∙ ap (λ t. 0 * s.low + reads_below s j false t) r ∙ omega arith
  | inr stores ↦ given-stores s j counts 0 stores
]

none_before_first : (shapes : List FrameShape) (counts : Counts) (steps : List ℕ) (k : ℕ) → AreFrames shapes → given_below shapes counts steps 0 k ≡ 0
unfolding given_at
none_before_first [] counts steps k are = refl
none_before_first (s ∷ below) counts steps k are =
    let j : ℕ = k / width below in
    ap (λ y. given_below below counts (child steps j) y (k % width below)) (given_zero s j (counts steps j) are.0)
    ∙ none_before_first below counts (child steps j) (k % width below) are.2

first_of_range : (f : ℕ → List Event) (a n x : ℕ) (e : Event) → a ≤ x → x < a + n → ((y : ℕ) → a ≤ y → y < x → f y ≡ []) → slice_get (f x) 0 ≡ Some e → slice_get (flat_map f (range_with_len a n)) 0 ≡ Some e
first_of_range f a zero x e l h none here = absurd (omega arith)
first_of_range f a (suc n) x e l h none here = elim (cases_eq a x) [
  | inl same ↦ first_get (f a) (flat_map f (range_with_len (a + 1) n)) e (ap (λ y. slice_get (f y) 0) same ∙ here)
  | inr other ↦
      ap (λ es. slice_get (es ++ flat_map f (range_with_len (a + 1) n)) 0) (none a (omega arith) (omega arith))
      ∙ first_of_range f (a + 1) n x e (omega arith) (omega arith) (λ y l' h'. none y (omega arith) h') here
]

first_event-at : (shapes : List FrameShape) (counts : Counts) (frames x : ℕ) (e : Event) → x < frames * top_len shapes → ((y : ℕ) → y < x → events_in Plain shapes counts [] y ≡ [])
    → slice_get (events_in Plain shapes counts [] x) 0 ≡ Some e → first_event shapes counts frames ≡ Some e
unfolding events_below
first_event-at shapes counts frames x e h none here = first_of_range (events_in Plain shapes counts []) 0 (frames * top_len shapes) x e (omega arith) (omega arith) (λ y l lt. none y lt) here

-- ---- what it sends

over_is : (kind : Kind) (place at : Place) → Overflow place ≡ stop_of_kind kind at → (true ≡ is_overflow kind) × (place ≡ at)
over_is OverflowKind place at e = (refl, cc)
over_is UnderflowKind place at e = cc

under_is : (kind : Kind) (place at : Place) → Underflow place ≡ stop_of_kind kind at → (false ≡ is_overflow kind) × (place ≡ at)
under_is OverflowKind place at e = cc
under_is UnderflowKind place at e = (refl, cc)

no_event_missing : (kind : Kind) (node : Path) (at : Place) → NoFrame node ≡ stop_of_kind kind at → ⊥
no_event_missing OverflowKind node at e = cc
no_event_missing UnderflowKind node at e = cc

no_event_ended : (kind : Kind) (leaf : ℕ) (at : Place) → Ended leaf ≡ stop_of_kind kind at → ⊥
no_event_ended OverflowKind leaf at e = cc
no_event_ended UnderflowKind leaf at e = cc

-- the top has the frames that it begins, so a node that lacks a frame stands below it
lacks_below : (shapes : List FrameShape) (counts : Counts) (scheduled : List ℕ → ℕ) (frames whole made : ℕ) (node : List ℕ) → AreFrames shapes → frames ≤ scheduled [] → whole < frames → whole * top_len shapes ≤ made → made < suc whole * top_len shapes
    → LacksFrames shapes counts scheduled [] (suc made) node → LacksBelow shapes counts scheduled (frames * top_len shapes) node
unfolding LacksFrames
lacks_below [] counts scheduled frames whole made node are has fewer begins within lacks = lacks
lacks_below (s ∷ below) counts scheduled frames whole made node are has fewer begins within lacks = elim lacks [
  | inl here ↦ absurd (omega (arith, here.1, has, fewer, begun-suc s made are.0, frame-is s.len whole made begins within))
  | inr there ↦
      let j : ℕ = there.0 in
      let upto : suc made ≤ frames * s.len = omega (arith, mul-le-mul_right s.len fewer, within) in (
        j,
        there.1,
        lacks-grows below counts scheduled (child [] j) (given s j (counts [] j) (suc made)) (given s j (counts [] j) (frames * s.len)) node are.2 (given-grows s j (counts [] j) (suc made) (frames * s.len) are.0 are.1 there.1 upto) there.2,
      )
]

cases_mode : (mode : Mode) → (mode ≡ Plain) ⊎ (mode ≡ Slipping)
cases_mode Plain = inl refl
cases_mode Slipping = inr refl

module _ (mode : Mode) (shapes : List FrameShape) (counts : Counts) (says : ℕ → Service) (scheduled : List ℕ → ℕ) (are : AreFrames shapes) (at : IsAt shapes top []) where
  abbrev m : Meaning
  m = chain_sender shapes

  abbrev plan : Plan
  plan = plan_with mode scheduled counts

  line-same : (lists : ℕ → List Bool) (n : ℕ) → front (m.line (supply_with plan says lists)) (n * top_len shapes) ≡ frames_of_line mode shapes counts says lists n
  line-same lists n = map-range_same_on _ _ 0 (n * top_len shapes) (λ x l h. line_is mode scheduled counts (bits_of lists) shapes top [] 0 says x are at)

  given-is : (x k : ℕ) → k < width shapes → m.given plan x k ≡ given_below shapes counts [] x k
  given-is x k known =
      let number : k ≡ 0 + k = omega arith in
      ap (m.given plan x) number ∙ given_is mode scheduled counts shapes top [] 0 x k at known

  given-none : (k : ℕ) → k < width shapes → m.given plan 0 k ≡ 0
  given-none k known = given-is 0 k known ∙ none_before_first shapes counts [] k are

  fits : (inputs : Inputs) → Fits m plan 0 inputs inputs.left
  fits inputs k is = let none = given-none k (is_held shapes k is) in omega (arith, none)

  -- lists that begin with the bits that were given are a supply that the sender stood for
  stood : (stands_for : Supply → ℕ → Type 0) (given lists : ℕ → List Bool) → ((supply : Supply) → stands_for supply 0) → BeginWith (width shapes) given lists → Stood m says stands_for plan 0 given (supply_with plan says lists)
  stood stands_for given lists fresh begin = record { plan_is = refl; said = λ n. refl; stands = fresh (supply_with plan says lists); agrees = agrees }
    where
      agrees : (k : ℕ) → m.leaves k ≡ true → (i : ℕ) → i < length (given k) → slice_index_or (given k) i false ≡ slice_index_or (lists k) (m.given plan 0 k + i) false
      agrees k is i h =
          let known = is_held shapes k is in
          let here : i ≡ m.given plan 0 k + i = omega (arith, given-none k known) in
          begin k i known h ∙ ap (λ n. slice_index_or (lists k) n false) here

  -- in plain mode an event stands in the way
  tells : mode ≡ Plain → (size : ℕ → ℕ) (x : ℕ) (o : Option TxStop) → m.obstacle plan size x ≡ o → Tells (Other shapes counts scheduled size [] 0 (suc x)) o (events_in Plain shapes counts [] x)
  tells plain size x o is =
      subst (λ o. Tells (Other shapes counts scheduled size [] 0 (suc x)) o (events_in Plain shapes counts [] x)) (ap (λ mode. m.obstacle (plan_with mode scheduled counts) size x) (sym plain) ∙ is)
      (chain_tells shapes counts scheduled size top [] 0 x are at)

  quiet : mode ≡ Plain → (inputs : Inputs) (to y : ℕ) → IsFree m plan 0 to inputs → y < to → events_in Plain shapes counts [] y ≡ []
  quiet plain inputs to y free h = tells plain inputs.left y None (free inputs.left (fits inputs) y (omega arith) h)

  -- and in the other nothing but the end of a list or of a schedule
  stops_slipping : mode ≡ Slipping → (size : ℕ → ℕ) (x : ℕ) (stop : TxStop) → m.obstacle plan size x ≡ Some stop → Other shapes counts scheduled size [] 0 (suc x) stop
  stops_slipping slips size x stop is =
      subst (Only (Other shapes counts scheduled size [] 0 (suc x))) (ap (λ mode. m.obstacle (plan_with mode scheduled counts) size x) (sym slips) ∙ is) (chain_stops shapes counts scheduled size top [] 0 x are at)

  -- nothing stands in the way of the first of bits that are free
  clear_of : (inputs : Inputs) (to bits : ℕ) → IsFree m plan 0 to inputs → bits ≤ to → IsClear mode shapes counts scheduled inputs.left bits
  clear_of inputs to bits free most x h = free inputs.left (fits inputs) x (omega arith) (omega arith)

  -- what was put for every supply that the sender stood for
  puts_frames : (stands_for : Supply → ℕ → Type 0) (n : ℕ) (given : ℕ → List Bool) (outputs outputs_now : Outputs) (lists : ℕ → List Bool) → ((supply : Supply) → stands_for supply 0)
      → ((supply : Supply) → Stood m says stands_for plan 0 given supply → Puts (as_line (front (m.line supply) (n * top_len shapes))) outputs outputs_now)
      → BeginWith (width shapes) given lists → Puts (as_line (frames_of_line mode shapes counts says lists n)) outputs outputs_now
  puts_frames stands_for n given outputs outputs_now lists fresh puts begin =
      subst (λ line. Puts (as_line line) outputs outputs_now) (line-same lists n) (puts (supply_with plan says lists) (stood stands_for given lists fresh begin))

  -- ---- all frames

  sends_muxes : (placed : ℕ → Type 0) (old new : Supply → ℕ → Type 0) (frames : ℕ) (inputs inputs_now : Inputs) (outputs outputs_now : Outputs) → ((supply : Supply) → old supply 0)
      → Sends m says placed old new plan (frames * top_len shapes) inputs inputs_now outputs outputs_now → Muxes mode shapes counts says scheduled frames inputs inputs_now outputs outputs_now
  sends_muxes placed old new frames inputs inputs_now outputs outputs_now fresh sends = record {
    line = record {
      given = sends.given;
      takes = sends.gives.takes;
      others = λ k other. sends.gives.others k (leaf_out senders shapes top k other);
      puts = λ lists begin. puts_frames old frames sends.given outputs outputs_now lists fresh sends.puts begin;
    };
    given_is = λ k known. omega (arith, sends.gives.takes.counts k, sends.gives.exact k (is_leaf shapes k known), given-none k known, given-is (frames * top_len shapes) k known);
    no_event = λ plain. ap (λ es. slice_get es 0) (events_below-none shapes counts (frames * top_len shapes) (λ y h. quiet plain inputs (frames * top_len shapes) y sends.free h));
    clear = clear_of inputs (frames * top_len shapes) (frames * top_len shapes) sends.free (omega arith);
  }

  -- ---- a stop

  module _ (old : Supply → ℕ → Type 0) (frames : ℕ) (stop : TxStop) (inputs inputs_now : Inputs) (outputs outputs_now : Outputs) (faults now : ℕ) (fresh : (supply : Supply) → old supply 0)
      (stops : StopsSending m says old plan (top_len shapes) frames stop inputs inputs_now outputs outputs_now faults now) where
    -- the frames before it
    abbrev whole_frames : PutsFrames mode shapes counts says stops.whole inputs inputs_now outputs outputs_now
    whole_frames = record {
      given = stops.given;
      takes = stops.at.takes;
      others = λ k other. stops.at.others k (leaf_out senders shapes top k other);
      puts = λ lists begin. puts_frames old stops.whole stops.given outputs outputs_now lists fresh stops.puts begin;
    }

    made_inside : stops.made < frames * top_len shapes
    made_inside = omega (arith, mul-le-mul_right (top_len shapes) stops.fewer, stops.within)

    -- it stands in the way before all frames are sent, and no leaf gave more than these frames and the next take
    abbrev fewer_frames : PutsFewer mode shapes counts says scheduled frames inputs inputs_now outputs outputs_now
    fewer_frames = record {
      whole = stops.whole;
      fewer = stops.fewer;
      line = whole_frames;
      gives = record {
        no_fewer = λ k known. omega (arith, stops.at.no_fewer k (is_leaf shapes k known), given-none k known, given-is stops.made k known, given_below-grows shapes counts [] (stops.whole * top_len shapes) stops.made k are stops.begun);
        no_more = λ k known. omega (arith, stops.at.no_more k (is_leaf shapes k known), given-none k known, given-is (suc stops.made) k known, given_below-grows shapes counts [] (suc stops.made) (suc stops.whole * top_len shapes) k are stops.within);
      };
      clear = clear_of inputs stops.made (stops.whole * top_len shapes) stops.at.free stops.begun;
    }

    -- it stands first in the way
    stops_first : is_failed stop ≡ false → StopsFirst mode shapes counts says scheduled frames stop inputs inputs_now outputs outputs_now
    stops_first none = record {
      obstacle = record {
        made = stops.made;
        within = made_inside;
        clear = clear_of inputs stops.made stops.made stops.at.free (omega arith);
        met = stops.at.met.is_first none inputs.left (fits inputs);
      };
      put = fewer_frames;
      begun = stops.begun;
      within = stops.within;
    }

    -- an event that the sender met is the first
    at_event : mode ≡ Plain → (over : Bool) (place : Place) (first : IsFirst (events_in Plain shapes counts [] stops.made) stop) → stop ≡ stop_at over place → is_failed stop ≡ false
        → (over ≡ is_overflow first.event.kind) × (place ≡ place_of first.event) → (mode ≡ Plain) × StopsAtEvent shapes counts says scheduled frames over place inputs inputs_now outputs outputs_now
    at_event plain over place first same none is = (
      plain,
      record {
        event = first.event;
        first = first_event-at shapes counts frames stops.made first.event made_inside (λ y h. quiet plain inputs stops.made y stops.at.free h) first.first;
        kind = is.0;
        place_is = is.1;
        made = stops.made;
        met = first.first;
        quiet = λ y h. quiet plain inputs stops.made y stops.at.free h;
        whole = stops.whole;
        begun = stops.begun;
        within = stops.within;
        line = subst (λ mode. PutsFrames mode shapes counts says stops.whole inputs inputs_now outputs outputs_now) plain whole_frames;
        stops = subst (λ mode. StopsFirst mode shapes counts says scheduled frames (stop_at over place) inputs inputs_now outputs outputs_now) plain
            (subst (λ stop. StopsFirst mode shapes counts says scheduled frames stop inputs inputs_now outputs outputs_now) same (stops_first none));
      },
    )

    -- what stood in its way
    met : is_failed stop ≡ false → ((mode ≡ Plain) × IsFirst (events_in Plain shapes counts [] stops.made) stop) ⊎ Other shapes counts scheduled inputs.left [] 0 (suc stops.made) stop
    met none = elim (cases_mode mode) [
      | inl plain ↦ elim (tells plain inputs.left stops.made (Some stop) (stops.at.met.is_first none inputs.left (fits inputs))) [
        | inl first ↦ inl (plain, first)
        | inr other ↦ inr other
      ]
      | inr slips ↦ inr (stops_slipping slips inputs.left stops.made stop (stops.at.met.is_first none inputs.left (fits inputs)))
    ]

  pub stops_muxes : (old : Supply → ℕ → Type 0) (frames : ℕ) (stop : TxStop) (inputs inputs_now : Inputs) (outputs outputs_now : Outputs) (faults now writes writes_now : ℕ) → frames ≤ scheduled [] → ((supply : Supply) → old supply 0)
      → StopsSending m says old plan (top_len shapes) frames stop inputs inputs_now outputs outputs_now faults now
      → IsMuxStop mode shapes counts says scheduled frames inputs inputs_now outputs outputs_now faults now writes writes_now (mux_stop stop)
  stops_muxes old frames Failed inputs inputs_now outputs outputs_now faults now writes writes_now has fresh stops = (rose_of _ _ stops.at.met.counted, fewer_frames old frames Failed inputs inputs_now outputs outputs_now faults now fresh stops)
  stops_muxes old frames LogFailed inputs inputs_now outputs outputs_now faults now writes writes_now has fresh stops = (stops.at.slipping refl, fewer_frames old frames LogFailed inputs inputs_now outputs outputs_now faults now fresh stops)
  stops_muxes old frames (Overflow place) inputs inputs_now outputs outputs_now faults now writes writes_now has fresh stops = elim (met old frames (Overflow place) inputs inputs_now outputs outputs_now faults now fresh stops refl) [
    | inl first ↦ at_event old frames (Overflow place) inputs inputs_now outputs outputs_now faults now fresh stops first.0 true place first.1 refl refl (over_is first.1.event.kind place (place_of first.1.event) first.1.is)
    | inr none ↦ absurd none
  ]
  stops_muxes old frames (Underflow place) inputs inputs_now outputs outputs_now faults now writes writes_now has fresh stops = elim (met old frames (Underflow place) inputs inputs_now outputs outputs_now faults now fresh stops refl) [
    | inl first ↦ at_event old frames (Underflow place) inputs inputs_now outputs outputs_now faults now fresh stops first.0 false place first.1 refl refl (under_is first.1.event.kind place (place_of first.1.event) first.1.is)
    | inr none ↦ absurd none
  ]
  stops_muxes old frames (NoFrame node) inputs inputs_now outputs outputs_now faults now writes writes_now has fresh stops = elim (met old frames (NoFrame node) inputs inputs_now outputs outputs_now faults now fresh stops refl) [
    | inl first ↦ absurd (no_event_missing first.1.event.kind node (place_of first.1.event) first.1.is)
    | inr lacks ↦ (
      record { steps = lacks.0; node_is = lacks.1; lacks = lacks_below shapes counts scheduled frames stops.whole stops.made lacks.0 are has stops.fewer stops.begun stops.within lacks.2 },
      stops_first old frames (NoFrame node) inputs inputs_now outputs outputs_now faults now fresh stops refl,
    )
  ]
  stops_muxes old frames (Ended leaf) inputs inputs_now outputs outputs_now faults now writes writes_now has fresh stops = elim (met old frames (Ended leaf) inputs inputs_now outputs outputs_now faults now fresh stops refl) [
    | inl first ↦ absurd (no_event_ended first.1.event.kind leaf (place_of first.1.event) first.1.is)
    | inr short ↦
        let same : short.0 ≡ leaf = omega (arith, short.1) in
        let most : ℕ = frames * top_len shapes in
        let upto : suc stops.made ≤ most = made_inside old frames (Ended leaf) inputs inputs_now outputs outputs_now faults now fresh stops in
        let less : inputs.left leaf < given_below shapes counts [] most short.0 = omega (arith, short.3, given_below-grows shapes counts [] (suc stops.made) most short.0 are upto) in (
          record { known = omega (arith, short.2, same); short = subst (λ k. inputs.left leaf < given_below shapes counts [] most k) same less; used_up = stops.at.used_up },
          stops_first old frames (Ended leaf) inputs inputs_now outputs outputs_now faults now fresh stops refl,
        )
  ]

  -- ---- a call for bits that failed

  pub takes_muxes : (old : Supply → ℕ → Type 0) (frames : ℕ) (inputs inputs_now : Inputs) (outputs outputs_now : Outputs) (reads reads_now : ℕ) → ((supply : Supply) → old supply 0)
      → FailsToTake m says old plan (top_len shapes) frames inputs inputs_now outputs outputs_now reads reads_now → Rose reads reads_now × PutsFewer mode shapes counts says scheduled frames inputs inputs_now outputs outputs_now
  takes_muxes old frames inputs inputs_now outputs outputs_now reads reads_now fresh fails = (
    fails.rose,
    record {
      whole = fails.whole;
      fewer = fails.fewer;
      line = record {
        given = fails.given;
        takes = fails.takes;
        others = λ k other. fails.others k (leaf_out senders shapes top k other);
        puts = λ lists begin. puts_frames old fails.whole fails.given outputs outputs_now lists fresh fails.puts begin;
      };
      gives = record {
        no_fewer = λ k known. omega (arith, fails.no_fewer k (is_leaf shapes k known), given-none k known, given-is (fails.whole * top_len shapes) k known);
        no_more = λ k known. omega (arith, fails.no_more k (is_leaf shapes k known), given-none k known, given-is (suc fails.whole * top_len shapes) k known);
      };
      clear = clear_of inputs (fails.whole * top_len shapes) (fails.whole * top_len shapes) fails.free (omega arith);
    },
  )

  -- ---- a bit that couldn't be put

  pub fails_muxes : (old : Supply → ℕ → Type 0) (frames : ℕ) (inputs inputs_now : Inputs) (outputs outputs_now : Outputs) (writes writes_now : ℕ) → ((supply : Supply) → old supply 0)
      → FailsToSend m says old plan (top_len shapes) frames inputs inputs_now outputs outputs_now writes writes_now → Rose writes writes_now × PutsPrefix mode shapes counts says scheduled frames inputs inputs_now outputs outputs_now
  fails_muxes old frames inputs inputs_now outputs outputs_now writes writes_now fresh fails = (
    fails.rose,
    record {
      made = suc fails.whole;
      upto = fails.fewer;
      given = fails.given;
      takes = fails.gives.takes;
      others = λ k other. fails.gives.others k (leaf_out senders shapes top k other);
      exact = λ k known. omega (arith, fails.gives.exact k (is_leaf shapes k known), given-none k known, given-is (suc fails.whole * top_len shapes) k known);
      puts = λ lists begin.
          subst (λ line. PutsPart (as_line line) outputs outputs_now) (line-same lists (suc fails.whole)) (fails.puts (supply_with plan says lists) (stood old fails.given lists fresh begin));
      clear = clear_of inputs (suc fails.whole * top_len shapes) (suc fails.whole * top_len shapes) fails.free (omega arith);
    },
  )

-- ---- the same of a meaning and a length that are known to be the chain's

module _ (mode : Mode) (shapes : List FrameShape) (counts : Counts) (says : ℕ → Service) (scheduled : List ℕ → ℕ) (are : AreFrames shapes) (at : IsAt shapes top []) (m : Meaning) (len : ℕ) (same : m ≡ chain_sender shapes) (whole : top_len shapes ≡ len) where
  pub sent : (placed : ℕ → Type 0) (old new : Supply → ℕ → Type 0) (frames : ℕ) (inputs inputs_now : Inputs) (outputs outputs_now : Outputs) → ((supply : Supply) → old supply 0)
      → Sends m says placed old new (plan_with mode scheduled counts) (frames * len) inputs inputs_now outputs outputs_now → Muxes mode shapes counts says scheduled frames inputs inputs_now outputs outputs_now
  sent placed old new frames inputs inputs_now outputs outputs_now fresh sends =
      let plan : Plan = plan_with mode scheduled counts in
      sends_muxes mode shapes counts says scheduled are at placed old new frames inputs inputs_now outputs outputs_now fresh
      (subst (λ m. Sends m says placed old new plan (frames * top_len shapes) inputs inputs_now outputs outputs_now) same (subst (λ len. Sends m says placed old new plan (frames * len) inputs inputs_now outputs outputs_now) (sym whole) sends))

  pub stopped : (old : Supply → ℕ → Type 0) (frames : ℕ) (stop : TxStop) (inputs inputs_now : Inputs) (outputs outputs_now : Outputs) (faults now writes writes_now : ℕ) → frames ≤ scheduled [] → ((supply : Supply) → old supply 0)
      → StopsSending m says old (plan_with mode scheduled counts) len frames stop inputs inputs_now outputs outputs_now faults now
      → IsMuxStop mode shapes counts says scheduled frames inputs inputs_now outputs outputs_now faults now writes writes_now (mux_stop stop)
  stopped old frames stop inputs inputs_now outputs outputs_now faults now writes writes_now has fresh stops =
      let plan : Plan = plan_with mode scheduled counts in
      stops_muxes mode shapes counts says scheduled are at old frames stop inputs inputs_now outputs outputs_now faults now writes writes_now has fresh
      (subst (λ m. StopsSending m says old plan (top_len shapes) frames stop inputs inputs_now outputs outputs_now faults now) same (subst (λ len. StopsSending m says old plan len frames stop inputs inputs_now outputs outputs_now faults now) (sym whole) stops))

  pub failed : (old : Supply → ℕ → Type 0) (frames : ℕ) (inputs inputs_now : Inputs) (outputs outputs_now : Outputs) (writes writes_now : ℕ) → ((supply : Supply) → old supply 0)
      → FailsToSend m says old (plan_with mode scheduled counts) len frames inputs inputs_now outputs outputs_now writes writes_now → Rose writes writes_now × PutsPrefix mode shapes counts says scheduled frames inputs inputs_now outputs outputs_now
  failed old frames inputs inputs_now outputs outputs_now writes writes_now fresh fails =
      let plan : Plan = plan_with mode scheduled counts in
      fails_muxes mode shapes counts says scheduled are at old frames inputs inputs_now outputs outputs_now writes writes_now fresh
      (subst (λ m. FailsToSend m says old plan (top_len shapes) frames inputs inputs_now outputs outputs_now writes writes_now) same (subst (λ len. FailsToSend m says old plan len frames inputs inputs_now outputs outputs_now writes writes_now) (sym whole) fails))

  pub take_failed : (old : Supply → ℕ → Type 0) (frames : ℕ) (inputs inputs_now : Inputs) (outputs outputs_now : Outputs) (reads reads_now : ℕ) → ((supply : Supply) → old supply 0)
      → FailsToTake m says old (plan_with mode scheduled counts) len frames inputs inputs_now outputs outputs_now reads reads_now → Rose reads reads_now × PutsFewer mode shapes counts says scheduled frames inputs inputs_now outputs outputs_now
  take_failed old frames inputs inputs_now outputs outputs_now reads reads_now fresh fails =
      let plan : Plan = plan_with mode scheduled counts in
      takes_muxes mode shapes counts says scheduled are at old frames inputs inputs_now outputs outputs_now reads reads_now fresh
      (subst (λ m. FailsToTake m says old plan (top_len shapes) frames inputs inputs_now outputs outputs_now reads reads_now) same (subst (λ len. FailsToTake m says old plan len frames inputs inputs_now outputs outputs_now reads reads_now) (sym whole) fails))

-- ---- a start that failed

prefix_same : (bits : List Bool) (told : Option (List Bool)) → PrefixOf bits told told
prefix_same bits None = tt
prefix_same bits (Some list) = (bits, refl)

nothing_before : (told : Option (List Bool)) → told ≡ before [] told
nothing_before None = refl
nothing_before (Some list) = refl

pub nothing_put : (mode : Mode) (shapes : List FrameShape) (counts : Counts) (says : ℕ → Service) (scheduled : List ℕ → ℕ) (frames : ℕ) (inputs inputs_now : Inputs) (outputs outputs_now : Outputs) → AreFrames shapes → inputs_now ≡ inputs → outputs_now ≡ outputs → PutsPrefix mode shapes counts says scheduled frames inputs inputs_now outputs outputs_now
nothing_put mode shapes counts says scheduled frames inputs inputs_now outputs outputs_now are same same' = record {
  made = 0;
  upto = omega arith;
  given = λ k. [];
  takes = record {
    counts = λ k. let left : inputs.left k ≡ inputs_now.left k = ap (λ (i : Inputs). i.left k) (sym same) in omega arith;
    bits = λ k. nothing_before (inputs.told k) ∙ ap (λ (i : Inputs). before [] (i.told k)) (sym same);
  };
  others = λ k other. refl;
  exact = λ k known. (let none : 0 * top_len shapes ≡ 0 = omega arith in sym (ap (λ x. given_below shapes counts [] x k) none ∙ none_before_first shapes counts [] k are));
  puts = λ lists begin k.
      subst (λ told. PrefixOf (as_line (frames_of_line mode shapes counts says lists 0) k) (outputs.told k) told) (ap (λ (o : Outputs). o.told k) (sym same')) (prefix_same (as_line (frames_of_line mode shapes counts says lists 0) k) (outputs.told k));
  clear = λ x h. absurd (omega arith);
}

-- ---- counts of faults since an earlier state

module _ (mode : Mode) (shapes : List FrameShape) (counts : Counts) (says : ℕ → Service) (scheduled : List ℕ → ℕ) (frames : ℕ) (inputs inputs_now : Inputs) (outputs outputs_now : Outputs) (first reads reads_now start writes writes_now : ℕ) where
  pub stop_since : (stop : MuxStop) → first ≤ reads → start ≤ writes → IsMuxStop mode shapes counts says scheduled frames inputs inputs_now outputs outputs_now reads reads_now writes writes_now stop
      → IsMuxStop mode shapes counts says scheduled frames inputs inputs_now outputs outputs_now first reads_now start writes_now stop
  stop_since MuxMemory h h' why = why
  stop_since (MuxEvent over place) h h' why = why
  stop_since (MuxNoFrame node) h h' why = why
  stop_since (MuxEnded leaf) h h' why = why
  stop_since MuxReadFailed h h' why = (omega (arith, why.0, h), why.1)
  stop_since MuxWriteFailed h h' why = (omega (arith, why.0, h'), why.1)
  stop_since MuxLogFailed h h' why = why
