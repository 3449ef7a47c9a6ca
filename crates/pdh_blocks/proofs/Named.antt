-- Which name a port names as that of the last failed call.
use Rattle.std.proofs.Common.{◌≡◌, ℕ, ◌+◌, ◌<◌, ◌≤◌, Bool, true, List, length, Some, slice_get, sym, ap, ◌∙◌, subst, arith}
use Rattle.std.specs.Prelude.{is_none, nat_eq}
use Rattle.std.proofs.lemmas.Bool.{ne_eqb}
use Rattle.std.proofs.lemmas.Option.{same_Some, slice_get_within}
use Rattle.pdh_edge.specs.declared.shelf.Call.{Call}
use Rattle.pdh_edge.specs.declared.shelf.Call.TheVariants.{Read, Start, Append}
use Rattle.pdh_edge.specs.Files.{FailedCall, TellsFailed}
use Rattle.pdh_blocks.specs.State.{PortState, names}
use Rattle.pdh_blocks.specs.Held.{IsLastCall, IsLastAt, IsLastFailed, NamesFailed}

-- ---- a call that succeeded, and each other step that the shelf's last failed call stays at

module _ (a b : PortState) (same : names b ≡ names a) (tells : b.shelf.tells_name ≡ a.shelf.tells_name) (last : b.shelf.last_failed ≡ a.shelf.last_failed) where
  still_last : (call : Call) (i : ℕ) → IsLastAt a call i → IsLastAt b call i
  still_last call i was name at =
      let failed : FailedCall = record { call = call; name = name } in
      let here : TellsFailed (a.shelf.tells_name name) failed a.shelf.last_failed = was name (ap (λ all. slice_get all i) (sym same) ∙ at) in
      let now : TellsFailed (a.shelf.tells_name name) failed b.shelf.last_failed = subst (TellsFailed (a.shelf.tells_name name) failed) (sym last) here in
      subst (λ (f : List ℕ → Bool). TellsFailed (f name) failed b.shelf.last_failed) (sym tells) now

  module _ (leaves : length b.leaves ≡ length a.leaves) (fed : b.feed_faults ≡ a.feed_faults) (drained : b.drain_faults ≡ a.drain_faults) where
    -- a port that is made ready names no output
    pub still_failed : (i : ℕ) → (length a.leaves ≤ i → b.ready ≡ true → a.ready ≡ true) → IsLastFailed a i → IsLastFailed b i
    still_failed i ready was = record {
      within = omega (arith, was.within, ap length same);
      source = λ less. still_last Read i (was.source (omega (arith, less, leaves)));
      output = λ more no. still_last Append i (was.output (omega (arith, more, leaves)) (λ is. no (still_last Start i is)));
      ready = λ more yes. let late : length a.leaves ≤ i = omega (arith, more, leaves) in still_last Append i (was.ready late (ready late yes));
      fed = λ none. let less = was.fed (sym drained ∙ none) in omega (arith, less, leaves);
      drained = λ none. let more = was.drained (sym fed ∙ none) in omega (arith, more, leaves);
    }

    pub still_named : b.failed ≡ a.failed → ((i : ℕ) → a.failed ≡ Some i → length a.leaves ≤ i → b.ready ≡ true → a.ready ≡ true) → NamesFailed a → NamesFailed b
    still_named which ready was = record {
      none = ap is_none which ∙ was.none ∙ ap (λ n. nat_eq n 0) (sym (ap (λ n. n + b.drain_faults) fed ∙ ap (λ n. a.feed_faults + n) drained));
      named = λ i is. let before : a.failed ≡ Some i = sym which ∙ is in still_failed i (ready i before) (was.named i before);
    }

-- ---- a call that failed

module _ (b : PortState) (i : ℕ) (name : List ℕ) (at : slice_get (names b) i ≡ Some name) (which : b.failed ≡ Some i) where
  last_at : (call : Call) → IsLastCall b.shelf call name → IsLastAt b call i
  last_at call is other here = subst (IsLastCall b.shelf call) (same_Some name other (sym at ∙ here)) is

  named_one : 0 < b.feed_faults + b.drain_faults → IsLastFailed b i → NamesFailed b
  named_one some is = record {
    none = ap is_none which ∙ sym (ne_eqb (b.feed_faults + b.drain_faults) 0 (λ zero. omega (arith, zero, some)));
    named = λ j this. subst (IsLastFailed b) (same_Some i j (sym which ∙ this)) is;
  }

  -- a read of a source
  pub read_named : i < length b.leaves → 0 < b.feed_faults → IsLastCall b.shelf Read name → NamesFailed b
  read_named less some is = named_one (omega (arith, some)) (record {
    within = slice_get_within (names b) i name at;
    source = λ here. last_at Read is;
    output = λ more no. absurd (omega (arith, less, more));
    ready = λ more yes. absurd (omega (arith, less, more));
    fed = λ none. less;
    drained = λ none. absurd (omega (arith, some, none));
  })

  module _ (more : length b.leaves ≤ i) (some : 0 < b.drain_faults) where
    -- a start of an output
    pub start_named : (b.ready ≡ true → ⊥) → IsLastCall b.shelf Start name → NamesFailed b
    start_named unready is = named_one (omega (arith, some)) (record {
      within = slice_get_within (names b) i name at;
      source = λ less. absurd (omega (arith, less, more));
      output = λ late no. absurd (no (last_at Start is));
      ready = λ late yes. absurd (unready yes);
      fed = λ none. absurd (omega (arith, some, none));
      drained = λ none. more;
    })

    -- an append to one
    pub append_named : IsLastCall b.shelf Append name → NamesFailed b
    append_named is = named_one (omega (arith, some)) (record {
      within = slice_get_within (names b) i name at;
      source = λ less. absurd (omega (arith, less, more));
      output = λ late no. last_at Append is;
      ready = λ late yes. last_at Append is;
      fed = λ none. absurd (omega (arith, some, none));
      drained = λ none. more;
    })
