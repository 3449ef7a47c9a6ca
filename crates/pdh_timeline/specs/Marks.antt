-- What each second of a line showed, by what came at its bits. Second s has the bits from s times the rate on.
use Rattle.std.specs.Prelude.{ℕ, suc, ◌-◌, ◌*◌, ◌/◌, Bool, true, false, nat_lt, nat_le, ◌&&◌, ◌||◌, if◌then◌else◌, List, [], ◌∷◌, ◌++◌, map, filter, flat_map, count_by}
use Rattle.std.specs.List.{range_with_len, list_any}
use Rattle.pdh_spans.specs.Times.{Turn, stands_after}
use Rattle.pdh_spans.specs.Times.Turn.{Begins, Ends}
use Rattle.pdh_seconds.specs.declared.second.Second.{Second}
use Rattle.pdh_timeline.specs.declared.state.State.{State}
use Rattle.pdh_timeline.specs.declared.state.State.TheVariants.{Out, Ais, Alarm}

-- a state begins or ends at a bit, a block turns out to be errored, or the far end tells an error
pub data Mark : Type 0 where
  Turns : State → Turn → Mark
  Errored : ℕ → Mark
  Far : ℕ → Mark

abbrev pub turn_place : Turn → ℕ
turn_place (Begins place) = place
turn_place (Ends place) = place

-- the bit at which it comes
abbrev pub place_of : Mark → ℕ
place_of (Turns state turn) = turn_place turn
place_of (Errored place) = place
place_of (Far place) = place

-- it comes at a bit of second s
abbrev pub is_in : ℕ → ℕ → Mark → Bool
is_in rate s mark = nat_le (s * rate) (place_of mark) && nat_lt (place_of mark) (suc s * rate)

-- what has come by the first bit of second s
abbrev pub by_start : ℕ → ℕ → List Mark → List Mark
by_start rate s marks = filter (λ mark. nat_le (place_of mark) (s * rate)) marks

abbrev pub is_state : State → State → Bool
is_state Out Out = true
is_state Ais Ais = true
is_state Alarm Alarm = true
is_state _ _ = false

-- the turns of a state
abbrev pub turn_of : State → Mark → List Turn
turn_of state (Turns other turn) = (if is_state state other then turn ∷ [] else [])
turn_of state (Errored place) = []
turn_of state (Far place) = []

abbrev pub turns_of : State → List Mark → List Turn
turns_of state marks = flat_map (turn_of state) marks

-- a state begins
abbrev pub begins : State → Mark → Bool
begins state (Turns other (Begins place)) = is_state state other
begins state (Turns other (Ends place)) = false
begins state (Errored place) = false
begins state (Far place) = false

abbrev pub is_errored : Mark → Bool
is_errored (Turns state turn) = false
is_errored (Errored place) = true
is_errored (Far place) = false

abbrev pub is_far : Mark → Bool
is_far (Turns state turn) = false
is_far (Errored place) = false
is_far (Far place) = true

-- a state stood at the first bit of second s, or began in it
abbrev pub touches : State → ℕ → ℕ → List Mark → Bool
touches state rate s marks = stands_after (turns_of state (by_start rate s marks)) || list_any (λ mark. begins state mark && is_in rate s mark) marks

-- how many errored blocks came in second s
abbrev pub blocks_in : ℕ → ℕ → List Mark → ℕ
blocks_in rate s marks = count_by (λ mark. is_errored mark && is_in rate s mark) marks

-- the far end told an error in second s
abbrev pub is_told : ℕ → ℕ → List Mark → Bool
is_told rate s marks = list_any (λ mark. is_far mark && is_in rate s mark) marks

-- A second of so many bits is errored with an errored block, or with a bit out of alignment or in AIS; it is severely errored with
-- such a bit, or where three tenths of its bits or more are in errored blocks (ITU-T G.826, 4.3).
abbrev pub second_from : ℕ → ℕ → Bool → Bool → Bool → ℕ → Bool → Second
second_from block bits out ais alarm blocks far = record {
  errored = (out || ais) || nat_lt 0 blocks;
  severe = (out || ais) || (nat_lt 0 blocks && nat_le (3 * bits) (10 * blocks * block));
  far = alarm || far;
}

-- second s of a line, which has so many bits
abbrev pub second_at : ℕ → ℕ → ℕ → List Mark → ℕ → Second
second_at block rate bits marks s =
    second_from block bits (touches Out rate s marks) (touches Ais rate s marks) (touches Alarm rate s marks) (blocks_in rate s marks) (is_told rate s marks)

-- the first seconds of a line, which are whole
abbrev pub whole_seconds : ℕ → ℕ → List Mark → ℕ → List Second
whole_seconds block rate marks count = map (second_at block rate rate marks) (range_with_len 0 count)

-- all seconds of a line of so many bits, of which the last may be short
abbrev pub seconds_of : ℕ → ℕ → ℕ → List Mark → List Second
seconds_of block rate bits marks =
    let last = (bits - 1) / rate in whole_seconds block rate marks last ++ second_at block rate (bits - last * rate) marks last ∷ []
