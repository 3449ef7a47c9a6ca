-- Counts of a port and its shelf that rise together.
use Rattle.std.proofs.Common.{◌≡◌, ℕ, zero, suc, ◌+◌, ◌-◌, ◌^◌, ◌<◌, ◌≤◌, min, refl, ap, ◌∙◌, arith}
use Rattle.pdh_edge.specs.Counts.{one_more}
use Rattle.pdh_edge.specs.Files.{Rose}
use Rattle.pdh_blocks.specs.Kept.{more, RiseTogether}

-- ---- a count after so many more

more_join : (n m count : ℕ) → more m (more n count) ≡ more (m + n) count
more_join n zero count = let same : n ≡ zero + n = omega arith in ap (λ k. more k count) same
more_join n (suc m) count = let next : suc (m + n) ≡ suc m + n = omega arith in ap one_more (more_join n m count) ∙ ap (λ k. more k count) next

-- it stands at the end of its type once there
pub more_is : (n count : ℕ) → count < 2 ^ 64 → more n count ≡ min (count + n) (2 ^ 64 - 1)
more_is zero count fits = omega arith
more_is (suc n) count fits = let was : more n count ≡ min (count + n) (2 ^ 64 - 1) = more_is n count fits in omega (arith, was)

no_fewer_by : (n old new : ℕ) → new ≡ more n old → (0 < n → old < 2 ^ 64) → old ≤ new
no_fewer_by zero old new is fits = omega (arith, is)
no_fewer_by (suc n) old new is fits = let now = more_is (suc n) old (fits (omega arith)) in omega (arith, is, now)

rose_by : (n port now shelf then_ : ℕ) → now ≡ more n port → then_ ≡ more n shelf → (0 < n → shelf < 2 ^ 64) → port < now → Rose shelf then_
rose_by zero port now shelf then_ p q fits less = absurd (omega (arith, p, less))
rose_by (suc n) port now shelf then_ p q fits less = let is = more_is (suc n) shelf (fits (omega arith)) in omega (arith, q, is)

fits_before : (n m old mid : ℕ) → mid ≡ more n old → (0 < n → old < 2 ^ 64) → (0 < m → mid < 2 ^ 64) → 0 < m + n → old < 2 ^ 64
fits_before zero m old mid is first then_ some = let fits : mid < 2 ^ 64 = then_ (omega (arith, some)) in omega (arith, is, fits)
fits_before (suc n) m old mid is first then_ some = first (omega arith)

-- ---- both

-- neither rose
pub rise_none : (port shelf now : ℕ) → now ≡ shelf → RiseTogether port port shelf now
rise_none port shelf now same = record { by = 0; port = refl; shelf = same; port_fits = λ some. absurd (omega (arith, some)); shelf_fits = λ some. absurd (omega (arith, some)) }

-- both rose by one
pub rise_one : (port port' shelf shelf' : ℕ) → port < 2 ^ 64 → shelf < 2 ^ 64 → port' ≡ one_more port → shelf' ≡ one_more shelf → RiseTogether port port' shelf shelf'
rise_one port port' shelf shelf' fits shelf_fits p q = record { by = 1; port = p; shelf = q; port_fits = λ some. fits; shelf_fits = λ some. shelf_fits }

module _ {a b x y : ℕ} (p : RiseTogether a b x y) where
  pub rise_join : {c z : ℕ} → RiseTogether b c y z → RiseTogether a c x z
  rise_join q = record {
    by = q.by + p.by;
    port = q.port ∙ ap (more q.by) p.port ∙ more_join p.by q.by a;
    shelf = q.shelf ∙ ap (more q.by) p.shelf ∙ more_join p.by q.by x;
    port_fits = fits_before p.by q.by a b p.port p.port_fits q.port_fits;
    shelf_fits = fits_before p.by q.by x y p.shelf p.shelf_fits q.shelf_fits;
  }

  -- a count of the port doesn't fall
  pub no_fewer : a ≤ b
  no_fewer = no_fewer_by p.by a b p.port p.port_fits

  -- nor one of its shelf
  pub shelf_no_fewer : x ≤ y
  shelf_no_fewer = no_fewer_by p.by x y p.shelf p.shelf_fits

  -- the shelf's rose where the port's did
  pub shelf_rose : a < b → Rose x y
  shelf_rose = rose_by p.by a b x y p.port p.shelf p.shelf_fits

-- ---- from none on

none_by : (n now shelf then_ : ℕ) → now ≡ more n 0 → then_ ≡ more n shelf → now ≡ 0 → then_ ≡ shelf
none_by zero now shelf then_ p q none = q
none_by (suc n) now shelf then_ p q none = let is = more_is (suc n) 0 (omega arith) in absurd (omega (arith, p, is, none))

one_by : (n now shelf then_ : ℕ) → now ≡ more n 0 → then_ ≡ more n shelf → now ≡ 1 → then_ ≡ one_more shelf
one_by zero now shelf then_ p q one = absurd (omega (arith, p, one))
one_by (suc zero) now shelf then_ p q one = q
one_by (suc (suc n)) now shelf then_ p q one = let is = more_is (suc (suc n)) 0 (omega arith) in absurd (omega (arith, p, is, one))

module _ {port now shelf then_ : ℕ} (p : RiseTogether port now shelf then_) (zero_before : port ≡ 0) where
  -- the port counted no call, and so did the shelf
  pub none_counted : now ≡ 0 → then_ ≡ shelf
  none_counted = none_by p.by now shelf then_ (p.port ∙ ap (more p.by) zero_before) p.shelf

  -- it counted one, and so did the shelf
  pub one_counted : now ≡ 1 → then_ ≡ one_more shelf
  one_counted = one_by p.by now shelf then_ (p.port ∙ ap (more p.by) zero_before) p.shelf
