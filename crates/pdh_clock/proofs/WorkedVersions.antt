-- The definitions on worked texts of version 2.
use Rattle.std.proofs.Common.{◌≡◌, ℕ, List, [], ◌∷◌, Ok, Err, Result, refl}
use Rattle.std.specs.Prelude.{codes, replicate}
use Rattle.pdh_levels.proofs.Worked.{e2, ds3_locked, ds2_locked}
use Rattle.pdh_shape.specs.declared.place.Level.{Level}
use Rattle.pdh_clock.specs.declared.fault.ScheduleFault.{ScheduleFault}
use Rattle.pdh_clock.specs.declared.fault.ScheduleFault.TheVariants.{BadRow, UnknownNode, CountOver}
use Rattle.pdh_clock.specs.Row.{Row}
use Rattle.pdh_clock.specs.Judged.{schedule_of}
use Rattle.pdh_clock.specs.Contents.{frames_of}

-- the frames of the node at a path, or the fault
abbrev frames_read : List Level → List ℕ → List ℕ → Result (List (List ℕ)) ScheduleFault
frames_read levels path text = go (schedule_of levels text)
  where
    go : Result (List Row) ScheduleFault → Result (List (List ℕ)) ScheduleFault
    go (Ok rows) = Ok (frames_of rows path)
    go (Err fault) = Err fault

abbrev read : List ℕ → Result (List (List ℕ)) ScheduleFault
read text = frames_read (e2 ∷ []) [] text

nominal : read (codes "version 2\nrate / 3 0 0 0 0 0\n") ≡ Ok (replicate 4 205 ∷ replicate 4 206 ∷ replicate 4 205 ∷ [])
unfolding schedule_of frames_of
nominal = refl

-- rows of both kinds, and lines that are passed over
mixed : read (codes "version 2\n/ 1 1 2 3 848\n#\n\nrate / 1 -1000 1000 0 -1000 5")
    ≡ Ok ((1 ∷ 2 ∷ 3 ∷ 848 ∷ []) ∷ (205 ∷ 205 ∷ 205 ∷ 205 ∷ []) ∷ [])
unfolding schedule_of frames_of
mixed = refl

-- the offset is that of the row's own line: 3 frames at 848 · 2048 · 1001000 / (8448 · 999000) bits each
fast : read (codes "version 2\nrate / 2 0 0 0 0 0\nrate / 3 -1000 1000 1000 1000 1000\n")
    ≡ Ok (replicate 4 205 ∷ replicate 4 206 ∷ replicate 4 205 ∷ replicate 4 206 ∷ replicate 4 206 ∷ [])
unfolding schedule_of frames_of
fast = refl

-- ---- faults

few_offsets : read (codes "version 2\nrate / 3 0 0 0 0") ≡ Err (BadRow 2)
unfolding schedule_of frames_of
few_offsets = refl

no_node : (read (codes "version 2\nrate /1 3 0 0 0 0 0\n") ≡ Err (UnknownNode 2)) × (read (codes "version 2\nrate /1 3 0 0\n") ≡ Err (UnknownNode 2))
unfolding schedule_of frames_of
no_node = (refl, refl)

few_words : (read (codes "version 2\nrate / 3\n") ≡ Err (BadRow 2)) × (read (codes "version 2\nrate\n") ≡ Err (BadRow 2))
unfolding schedule_of frames_of
few_words = (refl, refl)

no_offsets : (read (codes "version 2\nrate / 1 -0 0 0 0 0\n") ≡ Err (BadRow 2)) × (read (codes "version 2\nrate / 1 0 0 0 1001 0\n") ≡ Err (BadRow 2))
    × (read (codes "version 2\nrate / 1 0 +1 0 0 0\n") ≡ Err (BadRow 2)) × (read (codes "version 2\nrate / 1 0 0 0 0 -1001\n") ≡ Err (BadRow 2))
unfolding schedule_of frames_of
no_offsets = (refl, refl, refl, refl)

no_repeats : (read (codes "version 2\nrate / 131073 0 0 0 0 0\n") ≡ Err (BadRow 2)) × (read (codes "version 2\nrate / 0 0 0 0 0 0\n") ≡ Err (BadRow 2))
unfolding schedule_of frames_of
no_repeats = (refl, refl)

count_over : read (codes "version 2\n/ 1 1 2 3 849\n") ≡ Err (CountOver 2 849 848)
unfolding schedule_of frames_of
count_over = refl

-- ---- the version

-- only the first line says it, and only without anything else
first_version : (read (codes "rate / 3 0 0 0 0 0\n") ≡ Err (BadRow 1)) × (read (codes "#\nversion 2\n") ≡ Err (BadRow 2)) × (read (codes "version 2 \n") ≡ Err (BadRow 1))
    × (read (codes "version 1\n") ≡ Err (BadRow 1))
unfolding schedule_of frames_of
first_version = (refl, refl, refl, refl)

again : read (codes "version 2\nversion 2\n") ≡ Err (BadRow 2)
unfolding schedule_of frames_of
again = refl

none_said : (read (codes "version 2") ≡ Ok []) × (read [] ≡ Ok [])
unfolding schedule_of frames_of
none_said = (refl, refl)

-- ---- a top without stores

-- a row of the top has the line's offset alone
locked : (frames_read (ds3_locked ∷ ds2_locked ∷ []) [] (codes "version 2\nrate / 2 20\n") ≡ Ok (replicate 2 []))
    × (frames_read (ds3_locked ∷ ds2_locked ∷ []) [] (codes "version 2\nrate / 2 20 0\n") ≡ Err (BadRow 2))
    × (frames_read (ds3_locked ∷ ds2_locked ∷ []) (1 ∷ []) (codes "version 2\nrate /1 2 0 0 0 0 0\n") ≡ Ok (replicate 4 287 ∷ replicate 4 288 ∷ []))
unfolding schedule_of frames_of
locked = (refl, refl, refl)
