use Rattle.std.proofs.Common.{◌≡◌, ◌*◌, ℕ, ap, sym, subst, ◌∙◌, arith, lit≤}
use Rattle.std.proofs.Math.Nat.{mul_assoc, mul_comm}
use Rattle.pdh_script.specs.Scripts.{FitIn}
use Rattle.pdh_nesting.specs.Chains.{top_len}
use Rattle.pdh_chain.specs.Chains.{shapes_of}
use Rattle.pdh_tests_of_links.proofs.duplex.session.Goals as goal

pub duplex-requires : goal.duplex-requires
duplex-requires g c =
    let frames = c.args.frames in
    let bytes = c.frame_bytes.result in
    let bits : 8 * frames * bytes ≡ frames * top_len (shapes_of c.args.chain) =
    ap (λ n. n * bytes) (mul_comm 8 frames) ∙ mul_assoc frames 8 bytes ∙ ap (λ n. frames * n) (sym c.frame_bytes.ensures.bits) in
    record {
      seed = lit≤ tt;
      few = omega (arith, c.requires);
      to_east = subst (λ bits. FitIn bits c.in_ok-to_east.to_east) (rw c.from.ensures bits) c.in_ok-to_east.ensures.fit;
      to_west = subst (λ bits. FitIn bits c.in_ok-to_west.to_west) (rw c.from.ensures bits) c.in_ok-to_west.ensures.fit;
    }
