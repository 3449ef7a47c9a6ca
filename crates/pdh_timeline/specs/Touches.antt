-- What is kept of a state for the second that runs.
use Rattle.std.specs.Prelude.{Bool, true, false, not, ◌&&◌, ◌||◌, if◌then◌else◌}
use Rattle.pdh_timeline.specs.declared.touch.Touch.{Touch}

abbrev pub new_touch : Touch
new_touch = record { stands = false; start = false; begun = false }

abbrev pub with_begin : Bool → Touch → Touch
with_begin at_start touch = record { stands = true; start = touch.start || at_start; begun = true }

abbrev pub with_end : Bool → Touch → Touch
with_end at_start touch = record { stands = false; start = touch.start && not at_start; begun = touch.begun }

abbrev pub next_touch : Touch → Touch
next_touch touch = record { stands = touch.stands; start = touch.stands; begun = false }

-- the state stood in the second
abbrev pub has_touched : Touch → Bool
has_touched touch = touch.start || touch.begun

-- the same where it is the state meant
abbrev pub touch_begins : Bool → Bool → Touch → Touch
touch_begins own at_start touch = (if own then with_begin at_start touch else touch)

abbrev pub touch_ends : Bool → Bool → Touch → Touch
touch_ends own at_start touch = (if own then with_end at_start touch else touch)
