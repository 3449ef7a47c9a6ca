-- A worked line of E2 frames, as a node sends it, computed by the checker.
use Rattle.std.specs.Prelude.{◌≡◌, Bool, true, false, List, ◌∷◌, ◌++◌, replicate, refl}
use Rattle.pdh_shape.specs.Frame.{idle}
use Rattle.pdh_eframes.specs.Sets.{set_role}
use Rattle.pdh_eframes.specs.Plans.{e2, e2_signal}
use Rattle.pdh_eframes.proofs.Worked.{zeros_frame}
use Rattle.pdh_line.specs.Sending.Mode.{Plain}
use Rattle.pdh_line.specs.Sending.{Source, sent, odd_before, line_bit, front}
use Rattle.pdh_line.specs.Progress.{arrived}

-- four tributaries of zeros, with 205 bits of each in each frame
unfoldable pub zeros_source : Source
zeros_source = record { mode = Plain; counts = λ j n. 205; inputs = λ j k. false; says = λ n. idle }

-- a justified frame of zeros: its control bits and its justifiable slots are 1
unfoldable pub justified_frame : List Bool
justified_frame =
    e2_signal ++ false ∷ true ∷ replicate 200 false
    ++ replicate 4 true ++ replicate 208 false
    ++ replicate 4 true ++ replicate 208 false
    ++ replicate 4 true ++ replicate 4 true ++ replicate 204 false

-- In frame 0 the stores hold the threshold, so each tributary has an additional bit. From frame 1 on they hold one less at the
-- start, so the frames are justified.
pub zeros_line : front (line_bit e2 zeros_source) 2544 ≡ zeros_frame ++ justified_frame ++ justified_frame
unfolding zeros_source zeros_frame justified_frame line_bit odd_before sent arrived set_role
zeros_line = refl
