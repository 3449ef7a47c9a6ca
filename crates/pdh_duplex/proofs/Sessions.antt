-- The numbers of a session.
use Rattle.std.proofs.Common.{◌≡◌, ℕ, ap, ◌∙◌}
use Rattle.pdh_duplex.specs.declared.session.Session.{Session}

abbrev pub make_session : ℕ → ℕ → ℕ → ℕ → ℕ → ℕ → ℕ → ℕ → Session
make_session a b c d e f g h = record { west_frames = a; east_frames = b; west_alarms = c; east_alarms = d; west_febe = e; east_febe = f; west_errors = g; east_errors = h }

pub same_session : (a b c d e f g h a' b' c' d' e' f' g' h' : ℕ) → a ≡ a' → b ≡ b' → c ≡ c' → d ≡ d' → e ≡ e' → f ≡ f' → g ≡ g' → h ≡ h' → make_session a b c d e f g h ≡ make_session a' b' c' d' e' f' g' h'
same_session a b c d e f g h a' b' c' d' e' f' g' h' p0 p1 p2 p3 p4 p5 p6 p7 =
    ap (λ x. make_session x b c d e f g h) p0
    ∙ ap (λ x. make_session a' x c d e f g h) p1
    ∙ ap (λ x. make_session a' b' x d e f g h) p2
    ∙ ap (λ x. make_session a' b' c' x e f g h) p3
    ∙ ap (λ x. make_session a' b' c' d' x f g h) p4
    ∙ ap (λ x. make_session a' b' c' d' e' x g h) p5
    ∙ ap (λ x. make_session a' b' c' d' e' f' x h) p6
    ∙ ap (λ x. make_session a' b' c' d' e' f' g' x) p7
