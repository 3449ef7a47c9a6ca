-- The roles of the frames of G.751, computed by the checker.
use Rattle.std.specs.Prelude.{◌≡◌, List, ◌∷◌, ◌++◌, map, refl}
use Rattle.pdh_shape.specs.declared.role.Role.{Role}
use Rattle.pdh_shape.specs.declared.role.Role.TheVariants.{Align, Service, Just}
use Rattle.pdh_shape.specs.Frame.{slots}
use Rattle.pdh_eframes.specs.Sets.{set_role}
use Rattle.pdh_eframes.specs.Plans.{e3, e4, e4_signal}
use Rattle.pdh_eframes.proofs.Worked.{turns, controls_of, table_of}

-- 34368 kbit/s: 372, 380, 380 and 376 tributary bits
pub e3_roles : map e3.role (slots e3) ≡ table_of 93 95 94
unfolding set_role
e3_roles = refl

-- 139264 kbit/s, set by set: the signal, the alarm, three national bits and 472 tributary bits; a control bit of each
-- tributary and 484 tributary bits, four times; the control bits, the justifiable bits and 480 tributary bits
abbrev pub e4_table : List Role
e4_table =
    (map Align e4_signal ++ Service 0 ∷ Service 1 ∷ Service 1 ∷ Service 1 ∷ turns 118)
    ++ (controls_of 0 ++ turns 121)
    ++ (controls_of 1 ++ turns 121)
    ++ (controls_of 2 ++ turns 121)
    ++ (controls_of 3 ++ turns 121)
    ++ (controls_of 4 ++ Just 0 ∷ Just 1 ∷ Just 2 ∷ Just 3 ∷ turns 120)

pub e4_roles : map e4.role (slots e4) ≡ e4_table
unfolding set_role
e4_roles = refl
