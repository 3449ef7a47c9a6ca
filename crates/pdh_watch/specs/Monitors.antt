-- What monitors keep of the events that they see, and what they say of it.
use Rattle.std.specs.Prelude.{◌≡◌, ℕ, ◌+◌, ◌-◌, ◌^◌, min, Bool, ◌==◌, if◌then◌else◌, Option, Some, None, List, [], ◌∷◌, ◌++◌, fold, codes, decimal, bit_and, bit_or, length}
use Rattle.pdh_line.specs.Paths.{steps_of, path_text}
use Rattle.pdh_watch.specs.declared.kind.Kind.{Kind}
use Rattle.pdh_watch.specs.declared.kind.TheConstants.Kind.{ALARM_ON, ALARM_OFF}
use Rattle.pdh_watch.specs.declared.event.Event.{Event}
use Rattle.pdh_watch.specs.Kinds.{kinds}

-- a monitor counts, keeps the first event, or latches alarms; or it is its owner's own
pub data Form : Type 0 where
  Counts : Form
  KeepsFirst : Form
  Latches : Form
  Own : Form

-- what contracts see of a monitor
pub record State : Type 0 where
  pub form : Form
  -- the kinds that it wants
  pub wants : Kind
  -- how many events of these it saw, up to the end of the count's type
  pub hits : ℕ
  -- the first of them
  pub first : Option Event
  -- how many alarms are open
  pub alarms : ℕ
  -- the text of its owner's own monitor
  pub own_text : List ℕ

-- a monitor that saw nothing yet
abbrev pub new_monitor : Form → Kind → State
new_monitor form kinds = record { form = form; wants = kinds; hits = 0; first = None; alarms = 0; own_text = [] }

-- the kinds that a latch wants: that an alarm begins, and that it ends
abbrev pub alarm_kinds : Kind
alarm_kinds = record { 0 = bit_or ALARM_ON.0 ALARM_OFF.0 }

-- where the counts stand
abbrev pub most : ℕ
most = 2 ^ 64 - 1

-- a set has all the kinds of another
abbrev pub has_kinds : Kind → Kind → Bool
has_kinds set kinds = bit_and set.0 kinds.0 == kinds.0

-- a count of events, with one more
abbrev pub count_with : ℕ → Event → ℕ
count_with count event = min (count + 1) most

-- a count of the events that are wanted, after one more event
abbrev pub hits_with : Kind → ℕ → Event → ℕ
hits_with wants hits event = (if has_kinds wants event.kind then count_with hits event else hits)

-- the first event that is wanted, after one more event
abbrev pub first_with : Kind → Option Event → Event → Option Event
first_with wants (Some first) event = Some first
first_with wants None event = (if has_kinds wants event.kind then Some event else None)

-- each beginning of an alarm opens one, and each end closes one where one is open
abbrev pub alarms_with : ℕ → Event → ℕ
alarms_with alarms event =
    (if event.kind.0 == ALARM_ON.0 then count_with alarms event else (if event.kind.0 == ALARM_OFF.0 then alarms - 1 else alarms))

-- A monitor saw these events in order. Its form and what it wants never change. What its owner's own monitor says then is
-- left open.
pub record Saw (old : State) (events : List Event) (new : State) : Type 0 where
  pub form_is : new.form ≡ old.form
  pub wants_is : new.wants ≡ old.wants
  pub hits_are : new.hits ≡ fold (hits_with old.wants) old.hits events
  pub first_is : old.form ≡ KeepsFirst → new.first ≡ fold (first_with old.wants) old.first events
  pub alarms_are : old.form ≡ Latches → new.alarms ≡ fold alarms_with old.alarms events

-- each of some monitors saw these events
abbrev pub SawEach : List State → List Event → List State → Type 0
SawEach [] events [] = Unit {0}
SawEach (old ∷ olds) events (new ∷ news) = Saw old events new × SawEach olds events news
SawEach _ events _ = ⊥

-- each of some monitors saw these events, and they were counted
pub record SawAll (olds : List State) (before : ℕ) (events : List Event) (news : List State) (after : ℕ) : Type 0 where
  pub each : SawEach olds events news
  pub count_is : after ≡ fold count_with before events

-- ---- texts

-- a text with the name of a kind added, behind a + where it isn't the first, if the kind is in a set
abbrev pub with_name : Kind → List ℕ → (List ℕ × ℕ) → List ℕ
with_name set text kind = (if bit_and set.0 kind.1 == kind.1 then (if length text == 0 then kind.0 else text ++ codes "+" ++ kind.0) else text)

-- the names of the kinds in a set, in the table's order
unfoldable pub names_of : Kind → List ℕ
names_of set = fold (with_name set) [] kinds

-- the path and the bit of an event
abbrev pub place_text : Event → List ℕ
place_text event = path_text (steps_of event.path) ++ codes " bit " ++ decimal event.bit

-- the place of the first event, or that there was none
abbrev pub first_text : Option Event → List ℕ
first_text None = codes "none"
first_text (Some event) = place_text event

-- the text of a monitor of this form
abbrev pub says_as : Form → State → List ℕ
says_as Counts state = names_of state.wants ++ codes ": " ++ decimal state.hits
says_as KeepsFirst state = codes "first " ++ names_of state.wants ++ codes ": " ++ first_text state.first
says_as Latches state = codes "alarms open: " ++ decimal state.alarms
says_as Own state = state.own_text

-- the text of a monitor
abbrev pub says : State → List ℕ
says state = says_as state.form state
