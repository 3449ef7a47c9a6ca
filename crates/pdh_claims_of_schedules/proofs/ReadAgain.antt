-- A schedule that is read from the text of another.
use Rattle.std.proofs.Common.{◌≡◌, ◌≤◌, ℕ, Bool, true, false, if◌then◌else◌, nat_lt, List, length, Result, Ok, Err, IfOk, IsSome, refl, sym, subst, arith}
use Rattle.std.proofs.lemmas.Bool.Decides.{nat_tests}
use Rattle.pdh_shape.specs.declared.place.Level.{Level}
use Rattle.pdh_shape.specs.OwnNumbers.{most_bytes}
use Rattle.pdh_levels.specs.Levels.{level_at}
use Rattle.pdh_clock.specs.declared.fault.ScheduleFault.{ScheduleFault}
use Rattle.pdh_clock.specs.declared.fault.ScheduleFault.TheVariants.{TooLong}
use Rattle.pdh_clock.specs.Row.{Row}
use Rattle.pdh_clock.specs.Contents.{Contents, frames_of, frame_count}
use Rattle.pdh_clock.specs.Judged.{Gives, schedule_of}
use Rattle.pdh_clock.specs.Written.{ReadsBack}

not_over : {A : Type 0} (over : Bool) (fault : ScheduleFault) (judged : Result A ScheduleFault) (x : A) → (if over then Err fault else judged) ≡ Ok x → over ≡ false
not_over true fault judged x is = cc
not_over false fault judged x is = refl

-- a text that is read isn't too long
read_short : (levels : List Level) (text : List ℕ) (rows : List Row) → schedule_of levels text ≡ Ok rows → length text ≤ most_bytes
unfolding schedule_of
read_short levels text rows is =
    let short : nat_lt most_bytes (length text) ≡ false = not_over (nat_lt most_bytes (length text)) (TooLong (length text)) _ rows is in
    grind (arith, nat_tests)

-- what is read of a schedule's text has its frames
pub read_again : (schedule : Contents) (text : List ℕ) (levels : List Level) (read : Result Contents ScheduleFault) → schedule.levels ≡ levels
    → ((path : List ℕ) → IsSome (level_at levels path) → frame_count schedule.rows path ≤ 999999999)
    → ReadsBack schedule text → Gives (λ (again : Contents). again.rows) read (schedule_of levels text)
    → IfOk read (λ again. (path : List ℕ) → IsSome (level_at levels path) → frames_of again.rows path ≡ frames_of schedule.rows path)
read_again schedule text levels (Err fault) same few back gives = tt
read_again schedule text levels (Ok again) same few back gives = λ path known.
    let one : schedule_of schedule.levels text ≡ Ok again.rows = subst (λ l. schedule_of l text ≡ Ok again.rows) (sym same) gives in
    let backs = back (read_short levels text again.rows gives) (λ at known. few at (subst (λ l. IsSome (level_at l at)) same known)) in
    let other : schedule_of schedule.levels text ≡ Ok backs.0 = backs.1 in
    let rows : backs.0 ≡ again.rows = cc in
    subst (λ r. frames_of r path ≡ frames_of schedule.rows path) rows (backs.2 path (subst (λ l. IsSome (level_at l path)) (sym same) known))
