use Rattle.std.proofs.Common.{◌≡◌, inl, inr, ℕ, suc, length, map, [], false, eqb, refl, sym, ap, ◌∙◌, subst, arith, Some, slice_get, eq-eqb, ◌<◌}
use Rattle.std.proofs.lemmas.Result.{IfOk-weaker, IfErr-weaker}
use Rattle.pdh_shape.specs.Frame.{FrameShape}
use Rattle.pdh_shape.specs.Tributary.{turned}
use Rattle.pdh_line.specs.Sending.{Mode, came_before}
use Rattle.pdh_tx.specs.Held.{stops, slips, slip_if}
use Rattle.pdh_tx.specs.Meaning.{faults_met}
use Rattle.pdh_tx.specs.Tributary.{placed_in, held_in, meaning_in, share_in}
use Rattle.pdh_tx.specs.Tributaries.{GiveNext}
use Rattle.pdh_tx.specs.Node.{below, line_of, overhead_bit, place_at, read_slips, source_of}
use Rattle.pdh_tx.proofs.Reading.{carried_some, carried_none, overhead_is, read_is, bit_is, read_same, read_set, no_read, none_told, one_told, read_free, read_stop}
use Rattle.pdh_tx.proofs.Storing.{on_ok_if}
use Rattle.pdh_tx.proofs.Telling.{tells_ok, tells_same, all_none, not_log_failed}
use Rattle.pdh_tx.proofs.tributaries.Tributaries.slot_bit.Goals as goal

pub returns-in-Some-clause-placed : goal.returns-in-Some-clause-placed
returns-in-Some-clause-placed g c =
    let s : FrameShape = g.S.Shape.shape in
    let n : ℕ = c.args.frame in
    let t : ℕ = c.args.slot in
    let i : ℕ = c.in-Some.trib in
    let ws = c.args.self.now.list.items in
    let long : length ws ≡ s.tribs = c.args.self.now.count ∙ sym g.met.S.Shape.tribs_is in
    let within : t < s.len = omega (arith, c.requires, g.met.S.Shape.len_is) in
    on_ok_if c.read.result _
    (λ bit given plan is decided each j w e.
    let one = carried_some share_in s g.met.S.Shape.has_tributaries c.args.path plan n ws long decided t (s.role t) i within refl (sym c.in-Some.ensures.carried) in
    let gave = subst (λ (m : Mode). GiveNext c.args.self.now c.read.new.self m i bit) (sym is) given in
    let was = each i gave.was gave.at in
    subst (placed_in g.C.Tx w plan (came_before s (plan.counts c.args.path j) n (suc t)))
    (read_set s g.met.S.Shape.is_frame c.args.self.now.stores c.args.path plan n t i (length gave.was.store) one.0 one.1 was.count j) (gave.placed plan _ _ each j w e))
    c.read.ensures.bit

pub returns-in-Some-clause-free : goal.returns-in-Some-clause-free
returns-in-Some-clause-free g c =
    let s : FrameShape = g.S.Shape.shape in
    let n : ℕ = c.args.frame in
    let t : ℕ = c.args.slot in
    let i : ℕ = c.in-Some.trib in
    let ws = c.args.self.now.list.items in
    let long : length ws ≡ s.tribs = c.args.self.now.count ∙ sym g.met.S.Shape.tribs_is in
    let within : t < s.len = omega (arith, c.requires, g.met.S.Shape.len_is) in
    on_ok_if c.read.result _
    (λ bit gave plan is decided each.
    let one = carried_some share_in s g.met.S.Shape.has_tributaries c.args.path plan n ws long decided t (s.role t) i within refl (sym c.in-Some.ensures.carried) in
    let was = each i gave.was gave.at in
    read_free s g.met.S.Shape.is_frame c.args.self.now.stores c.args.path plan n t i (length gave.was.store) one.0 one.1 was.count (ap (λ (m : Mode). stops m (eqb (length gave.was.store) 0)) is ∙ gave.some))
    c.read.ensures.bit

pub returns-in-Some-clause-bit : goal.returns-in-Some-clause-bit
returns-in-Some-clause-bit g c =
    let s : FrameShape = g.S.Shape.shape in
    let n : ℕ = c.args.frame in
    let t : ℕ = c.args.slot in
    let i : ℕ = c.in-Some.trib in
    let ws = c.args.self.now.list.items in
    let ms = map (meaning_in g.C.Tx) ws in
    let long : length ws ≡ s.tribs = c.args.self.now.count ∙ sym g.met.S.Shape.tribs_is in
    let within : t < s.len = omega (arith, c.requires, g.met.S.Shape.len_is) in
    IfOk-weaker c.read.result _ _
    (λ bit given supply is arrived decided said parity each.
    let plan = supply.plan in
    let one = carried_some share_in s g.met.S.Shape.has_tributaries c.args.path plan n ws long decided t (s.role t) i within refl (sym c.in-Some.ensures.carried) in
    let gave = subst (λ (m : Mode). GiveNext c.args.self.now c.read.new.self m i bit) (sym is) given in
    let was = arrived i gave.was gave.at in
    let both = gave.bit_is (below supply) _ _ each in (
      both.0
          ∙ ap (turned (s.inverted i)) (bit_is s g.met.S.Shape.is_frame c.args.self.now.stores c.args.path plan n t i (length gave.was.store) one.0 one.1 was.count (line_of (slice_get ms i) (below supply)))
          ∙ sym (read_is s (source_of c.args.path ms supply) n t i (s.role t) (one.1 i ∙ eq-eqb i i refl)),
      λ j w e.
          subst (held_in g.C.Tx w (below supply) (came_before s (plan.counts c.args.path j) n (suc t)))
          (read_set s g.met.S.Shape.is_frame c.args.self.now.stores c.args.path plan n t i (length gave.was.store) one.0 one.1 was.count j) (both.1 j w e),
    ))
    c.read.ensures.bit

pub returns-in-Some-clause-stop : goal.returns-in-Some-clause-stop
returns-in-Some-clause-stop g c =
    let s : FrameShape = g.S.Shape.shape in
    let n : ℕ = c.args.frame in
    let t : ℕ = c.args.slot in
    let i : ℕ = c.in-Some.trib in
    let ws = c.args.self.now.list.items in
    let long : length ws ≡ s.tribs = c.args.self.now.count ∙ sym g.met.S.Shape.tribs_is in
    let within : t < s.len = omega (arith, c.requires, g.met.S.Shape.len_is) in
    IfErr-weaker c.read.result _ _
    (λ stop gave. record {
      uncounted = λ faults. elim gave.none [
        | inl empty ↦ ap (λ v. faults_met v faults) empty.0
        | inr failed ↦ ap (λ v. faults_met v faults) failed
      ];
      met = λ fine plan is decided each. elim gave.none [
        | inl empty ↦
            let one = carried_some share_in s g.met.S.Shape.has_tributaries c.args.path plan n ws long decided t (s.role t) i within refl (sym c.in-Some.ensures.carried) in
            let was = each i gave.was gave.at in
            read_stop s g.met.S.Shape.is_frame c.args.self.now.stores c.args.path plan n t i (length gave.was.store) one.0 one.1 was.count (ap (λ (m : Mode). stops m (eqb (length gave.was.store) 0)) is ∙ empty.1) ∙ ap Some (sym empty.0)
        | inr failed ↦ absurd (not_log_failed stop fine failed)
      ];
    })
    c.read.ensures.stop

pub returns-in-Some-clause-told : goal.returns-in-Some-clause-told
returns-in-Some-clause-told g c plan is decided each =
    let s : FrameShape = g.S.Shape.shape in
    let n : ℕ = c.args.frame in
    let t : ℕ = c.args.slot in
    let i : ℕ = c.in-Some.trib in
    let ws = c.args.self.now.list.items in
    let long : length ws ≡ s.tribs = c.args.self.now.count ∙ sym g.met.S.Shape.tribs_is in
    let within : t < s.len = omega (arith, c.requires, g.met.S.Shape.len_is) in
    let one = carried_some share_in s g.met.S.Shape.has_tributaries c.args.path plan n ws long decided t (s.role t) i within refl (sym c.in-Some.ensures.carried) in
    let told = c.read.ensures.told in
    let was = each i told.was told.at in
    tells_same _ (read_slips s c.args.path plan n t)
    (one_told s g.met.S.Shape.is_frame c.args.self.now.stores c.args.path plan n t i (length told.was.store) one.0 one.1 was.count
    ∙ ap (λ (m : Mode). slip_if (slips m (eqb (length told.was.store) 0)) false (place_at c.args.path i n t)) is)
    told.told

pub returns-in-None-clause-placed : goal.returns-in-None-clause-placed
returns-in-None-clause-placed g c plan is decided each j w e =
    let s : FrameShape = g.S.Shape.shape in
    let n : ℕ = c.args.frame in
    let t : ℕ = c.args.slot in
    let ws = c.args.self.now.list.items in
    let long : length ws ≡ s.tribs = c.args.self.now.count ∙ sym g.met.S.Shape.tribs_is in
    let within : t < s.len = omega (arith, c.requires, g.met.S.Shape.len_is) in
    let none = carried_none share_in s g.met.S.Shape.has_tributaries c.args.path plan n ws long decided t (s.role t) within refl (sym c.in-None.ensures.carried) in
    subst (placed_in g.C.Tx w plan (came_before s (plan.counts c.args.path j) n (suc t))) (read_same s g.met.S.Shape.is_frame c.args.self.now.stores c.args.path plan n t none j) (each j w e)

pub returns-in-None-clause-free : goal.returns-in-None-clause-free
returns-in-None-clause-free g c plan is decided each =
    let s : FrameShape = g.S.Shape.shape in
    let n : ℕ = c.args.frame in
    let t : ℕ = c.args.slot in
    let ws = c.args.self.now.list.items in
    let long : length ws ≡ s.tribs = c.args.self.now.count ∙ sym g.met.S.Shape.tribs_is in
    let within : t < s.len = omega (arith, c.requires, g.met.S.Shape.len_is) in
    no_read s g.met.S.Shape.is_frame c.args.self.now.stores c.args.path plan n t (carried_none share_in s g.met.S.Shape.has_tributaries c.args.path plan n ws long decided t (s.role t) within refl (sym c.in-None.ensures.carried))

pub returns-in-None-clause-bit : goal.returns-in-None-clause-bit
returns-in-None-clause-bit g c supply is arrived decided said parity each =
    let s : FrameShape = g.S.Shape.shape in
    let n : ℕ = c.args.frame in
    let t : ℕ = c.args.slot in
    let ws = c.args.self.now.list.items in
    let long : length ws ≡ s.tribs = c.args.self.now.count ∙ sym g.met.S.Shape.tribs_is in
    let within : t < s.len = omega (arith, c.requires, g.met.S.Shape.len_is) in
    let none = carried_none share_in s g.met.S.Shape.has_tributaries c.args.path supply.plan n ws long decided t (s.role t) within refl (sym c.in-None.ensures.carried) in (
      c.overhead_of.ensures ∙ ap (overhead_bit s c.args.say.now c.args.odd (map share_in ws)) c.role.ensures ∙ overhead_is share_in s g.met.S.Shape.has_tributaries c.args.path supply.plan n ws long decided (map (meaning_in g.C.Tx) ws) supply.lists supply.says c.args.say.now c.args.odd t (s.role t) within refl (sym c.in-None.ensures.carried) said parity,
      λ j w e. subst (held_in g.C.Tx w (below supply) (came_before s (supply.plan.counts c.args.path j) n (suc t))) (read_same s g.met.S.Shape.is_frame c.args.self.now.stores c.args.path supply.plan n t none j) (each j w e),
    )

pub returns-in-None-clause-told : goal.returns-in-None-clause-told
returns-in-None-clause-told g c plan is decided each =
    let s : FrameShape = g.S.Shape.shape in
    let n : ℕ = c.args.frame in
    let t : ℕ = c.args.slot in
    let ws = c.args.self.now.list.items in
    let long : length ws ≡ s.tribs = c.args.self.now.count ∙ sym g.met.S.Shape.tribs_is in
    let within : t < s.len = omega (arith, c.requires, g.met.S.Shape.len_is) in
    let none = carried_none share_in s g.met.S.Shape.has_tributaries c.args.path plan n ws long decided t (s.role t) within refl (sym c.in-None.ensures.carried) in
    tells_same [] (read_slips s c.args.path plan n t) (none_told s g.met.S.Shape.is_frame c.args.self.now.stores c.args.path plan n t none)
    (tells_ok _ (all_none g.G.SlipLog (record { nothing = g.met.G.SlipLog.logged_nothing; joins = g.met.G.SlipLog.logged_join; breaks = g.met.G.SlipLog.broken_join }) c.args.log.now))
