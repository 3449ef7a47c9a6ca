-- What a port in memory keeps over calls, one after another.
use Rattle.std.specs.Prelude.{◌≡◌, ℕ, List}
use Rattle.pdh_bits.specs.BitOut.{BoundedBits}
use Rattle.std.proofs.Common.{inl, inr, refl, ap, ◌∙◌, arith}
use Rattle.pdh_edge.specs.MemLists.{mem_outputs, bits_held, room_in, StaysInRoom}

pub stays_same : (lists : List BoundedBits) (faults : ℕ) → StaysInRoom lists lists faults faults
stays_same lists faults = record { rooms = λ k. refl; grows = λ k. omega arith; counted = inl refl }

pub stays_join : (x y z : List BoundedBits) (a b c : ℕ) → (mem_outputs z).holds ≡ (mem_outputs y).holds → StaysInRoom x y a b → StaysInRoom y z b c → StaysInRoom x z a c
stays_join x y z a b c held p q = record {
  rooms = λ k. q.rooms k ∙ p.rooms k;
  grows = λ k. omega (arith, p.grows k, q.grows k);
  counted = elim q.counted [
    | inl same ↦ elim p.counted [
      | inl first ↦ inl (same ∙ first)
      | inr full ↦ inr (full.0, ap (λ h. h full.0) held ∙ full.1, omega (arith, full.2, q.rooms full.0, q.grows full.0))
    ]
    | inr full ↦ inr full
  ];
}

pub stays_alike : (x y : List BoundedBits) (a b : ℕ) → y ≡ x → b ≡ a → StaysInRoom x y a b
stays_alike x y a b same uncounted = record {
  rooms = λ k. ap (λ lists. room_in lists k) same;
  grows = λ k. let held : bits_held (mem_outputs y) k ≡ bits_held (mem_outputs x) k = ap (λ lists. bits_held (mem_outputs lists) k) same in omega (arith, held);
  counted = inl uncounted;
}
