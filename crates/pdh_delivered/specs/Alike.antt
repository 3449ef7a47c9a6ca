-- Lines whose frames are alike.
use Rattle.std.specs.Prelude.{Bool, true, false, ◌==◌, ◌&&◌, ◌||◌, List, [], ◌∷◌, length}
use Rattle.std.specs.Bool.{beq}
use Rattle.std.specs.List.{list_all}
use Rattle.pdh_shape.specs.Frame.{FrameShape}
use Rattle.pdh_delivered.specs.declared.alike.Alike.{Alike}
use Rattle.pdh_delivered.specs.Deliveries.{Delivery, deliveries}

-- two lists have the same bits
abbrev pub same_bits : List Bool → List Bool → Bool
same_bits [] [] = true
same_bits (x ∷ xs) (y ∷ ys) = beq x y && same_bits xs ys
same_bits _ _ = false

-- a frame is like the one before it, or the first of its alignment
abbrev pub is_alike : Delivery → Bool
is_alike delivery = (length delivery.before == 0) || same_bits delivery.before delivery.frame

-- so is each delivered frame of a line
unfoldable pub are_alike : FrameShape → List Bool → Bool
are_alike s line = list_all is_alike (deliveries s line)

-- ---- a frame more

abbrev pub with_frame : Alike → Delivery → Alike
with_frame alike delivery = record { alike = alike.alike && is_alike delivery }
