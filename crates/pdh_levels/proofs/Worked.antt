-- The levels of DS2 and DS3, and the delays of chains of them, computed by the checker.
use Rattle.std.proofs.Common.{◌≡◌, ℕ, [], ◌∷◌, false, true, refl}
use Rattle.pdh_shape.specs.declared.place.Level.{Level}
use Rattle.pdh_line.specs.Nodes.{delay_of, delay_below}
use Rattle.pdh_levels.specs.Levels.{numbers_of}

-- a multiplexer with stores: the bits of its frame, its tributaries, and the least bits of each that a frame carries; and the
-- rate of its line in bits a second, with how far it may be off, and those of a tributary
abbrev pub with_stores : (len tribs low rate ppm trib_rate trib_ppm : ℕ) → Level
with_stores len tribs low rate ppm trib_rate trib_ppm = record {
  len = len;
  tribs = tribs;
  low = low;
  locked = false;
  rate = rate;
  per = 1;
  ppm = ppm;
  trib_rate = trib_rate;
  trib_per = 1;
  trib_ppm = trib_ppm;
}

-- those of 6312, 44736, 8448, 34368 and 139264 kbit/s
abbrev pub ds2 : Level
ds2 = with_stores 1176 4 287 6312000 30 1544000 32

abbrev pub ds3 : Level
ds3 = with_stores 4760 7 671 44736000 20 6312000 30

abbrev pub e2 : Level
e2 = with_stores 848 4 205 8448000 30 2048000 50

abbrev pub e3 : Level
e3 = with_stores 1536 4 377 34368000 20 8448000 30

abbrev pub e4 : Level
e4 = with_stores 2928 4 722 139264000 15 34368000 20

-- a 44736 kbit/s one with C-bit parity, without stores, and those of 671 bits of its frame
abbrev pub ds3_locked : Level
ds3_locked = record ds3 { locked = true; trib_rate = 30017856000; trib_per = 4760; trib_ppm = 20 }

abbrev pub ds2_locked : Level
ds2_locked = record ds2 { rate = 30017856000; per = 4760; ppm = 20 }

-- the top holds back two frames, so a leaf is behind by 66 + 2 · 288 or 66 + 2 · 672 bits; a node below it holds back five, so
-- by 66 + 5 · 288, also where the top has no stores and the node is short by 2 · 672 bits alone
delays : (delay_of (numbers_of (ds2 ∷ [])) ≡ 642) × (delay_of (numbers_of (ds3 ∷ [])) ≡ 1410) × (delay_of (numbers_of (ds3 ∷ ds2 ∷ [])) ≡ 1506)
    × (delay_of (numbers_of (ds3_locked ∷ ds2_locked ∷ [])) ≡ 1506)
unfolding delay_below
delays = (refl, refl, refl, refl)
