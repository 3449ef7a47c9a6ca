-- Two terminals of a chain, west and east, each of which sends the state of its receiver back in its own line. Time goes by
-- ticks: in each of them both ends send a frame.
use Rattle.std.specs.Prelude.{ℕ, zero, suc, ◌+◌, ◌*◌, ◌≤◌, ◌==◌, if◌then◌else◌, Bool, List, [], ◌∷◌, ◌++◌, length, drop}
use Rattle.std.specs.List.{slice_index_or}
use Rattle.pdh_shape.specs.declared.role.Service.{Service}
use Rattle.pdh_shape.specs.Frame.{FrameShape, idle}
use Rattle.pdh_shape.specs.OwnNumbers.{most_frames}
use Rattle.pdh_line.specs.Sending.Mode.{Plain}
use Rattle.pdh_nesting.specs.Chains.{top_len}
use Rattle.pdh_watch.specs.declared.kind.TheConstants.Kind.{ALARM_ON, FEBE}
use Rattle.pdh_watch.specs.declared.event.Event.{Event}
use Rattle.pdh_events.specs.Chain.{chain_events}
use Rattle.pdh_script.specs.Scripts.{Row, FitIn}
use Rattle.pdh_script.specs.Bending.{added_at, all_brought}
use Rattle.pdh_chain.specs.Chains.{shapes_of}
use Rattle.pdh_chain.specs.Muxes.{frames_of_line}
use Rattle.pdh_chain.specs.Demuxes.{top_delivered}
use Rattle.pdh_chain.specs.declared.chain.Chain.{Chain}
use Rattle.pdh_patterns.specs.Leaves.{made_counts, input_of}
use Rattle.pdh_duplex.specs.declared.session.Session.{Session}
use Rattle.pdh_duplex.specs.Top.{counted, count_of}
use Rattle.pdh_duplex.specs.Hearing.{Heard, nothing_heard, next_say, hears}

-- ---- an end

-- an end after some ticks
pub record End : Type 0 where
  -- what each of its frames said
  pub says : List Service
  pub heard : Heard

-- before the first tick
abbrev pub start : End
start = record { says = []; heard = nothing_heard }

-- an end that said this in one more frame, and received these bits
abbrev pub after_tick : List FrameShape → Service → List Bool → End → End
after_tick shapes say more end = record { says = end.says ++ say ∷ []; heard = hears shapes more end.heard }

-- ---- a session

-- what makes a session: the chain, the number of the leaves' patterns, how many frames each end sends, and the rows that disturb
-- the line to east and the line to west
pub record Setting : Type 0 where
  pub chain : Chain
  pub seed : ℕ
  pub frames : ℕ
  pub to_east : List Row
  pub to_west : List Row

abbrev pub setting_with : Chain → ℕ → ℕ → List Row → List Row → Setting
setting_with chain seed frames to_east to_west = record { chain = chain; seed = seed; frames = frames; to_east = to_east; to_west = to_west }

-- one that can be: a number of a pattern, no more frames than a schedule is made of, and scripts for the lines of these frames
pub record IsSetting (z : Setting) : Type 0 where
  pub seed : z.seed ≤ 999999999
  pub few : z.frames ≤ most_frames
  pub to_east : FitIn (z.frames * top_len (shapes_of z.chain)) z.to_east
  pub to_west : FitIn (z.frames * top_len (shapes_of z.chain)) z.to_west

-- the first n frames of an end's line, where its frames say this
abbrev pub line_upto : Setting → List Service → ℕ → List Bool
line_upto z says n = frames_of_line Plain (shapes_of z.chain) (made_counts z.chain z.frames) (λ k. slice_index_or says k idle) (input_of z.chain z.seed z.frames) n

-- frame n of it
abbrev pub frame_of : Setting → List Service → ℕ → List Bool
frame_of z says n = drop (n * top_len (shapes_of z.chain)) (line_upto z says (suc n))

-- what rows make of frame n of a line: what its bits bring and, where it is the last, what is added behind it
abbrev pub disturbed_frame : Setting → List Row → ℕ → List Bool → List Bool
disturbed_frame z rows n frame =
    let place = n * top_len (shapes_of z.chain) in all_brought place rows frame ++ (if suc n == z.frames then added_at (place + length frame) rows else [])

-- both ends
pub record Ends : Type 0 where
  pub west : End
  pub east : End

-- tick n: both ends say what they knew before it; west's frame comes to east, and east's to west
abbrev pub tick : Setting → ℕ → Ends → Ends
tick z n ends =
    let shapes = shapes_of z.chain in
    let west_says = next_say shapes ends.west.heard in
    let east_says = next_say shapes ends.east.heard in
    let to_east = disturbed_frame z z.to_east n (frame_of z (ends.west.says ++ west_says ∷ []) n) in
    let to_west = disturbed_frame z z.to_west n (frame_of z (ends.east.says ++ east_says ∷ []) n) in
    record { west = after_tick shapes west_says to_west ends.west; east = after_tick shapes east_says to_east ends.east }

-- both ends after n ticks
unfoldable pub ends_after : Setting → ℕ → Ends
ends_after z zero = record { west = start; east = start }
ends_after z (suc n) = tick z n (ends_after z n)

-- both at the end
abbrev pub ends_of : Setting → Ends
ends_of z = ends_after z z.frames

-- ---- what is counted

-- the events that an end saw
abbrev pub events_of : Setting → End → List Event
events_of z end = chain_events (shapes_of z.chain) end.heard.got

-- what both ends counted
abbrev pub counts_of : Setting → Ends → Session
counts_of z ends = record {
  west_frames = counted (top_delivered (shapes_of z.chain) ends.west.heard.got);
  east_frames = counted (top_delivered (shapes_of z.chain) ends.east.heard.got);
  west_alarms = count_of ALARM_ON (events_of z ends.west);
  east_alarms = count_of ALARM_ON (events_of z ends.east);
  west_febe = count_of FEBE (events_of z ends.west);
  east_febe = count_of FEBE (events_of z ends.east);
  west_errors = ends.west.heard.errors;
  east_errors = ends.east.heard.errors;
}

abbrev pub session_of : Setting → Session
session_of z = counts_of z (ends_of z)
