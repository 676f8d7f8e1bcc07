-- A side that asks its signer, step by step.
use Rattle.std.proofs.Common.{◌≡◌, inl, inr, ℕ, Bool, List, Option, Ok, Err, ◌∙◌, ap, sym, subst}
use Rattle.willow_outside.specs.Counts.{HasRisen}
use Rattle.sync_link.specs.Asking.{AsksOnce, CanFail, CountsSign, FailsSign, IsUnasked, SignsOnce}
use Rattle.sync_link.specs.declared.side.standing.Stop.{Stop}
use Rattle.sync_link.specs.declared.side.standing.Stop.TheVariants as stops

module _ {K : Type 0} where
  pub unasked_on : (made old new : Option (List ℕ)) (first now next : K) → IsUnasked made old first now → IsUnasked old new now next → IsUnasked made new first next
  unasked_on made old new first now next before later e =
      let h = later e in
      let k = before h.0 in
      (k.0, h.1 ∙ k.1)

  -- a side that asks now had not asked before
  pub asks_on : (asks : K → K → Type 0) (made old : Option (List ℕ)) (first now next : K) → IsUnasked made old first now → AsksOnce asks made first now → AsksOnce asks old now next → AsksOnce asks made first next
  asks_on asks made old first now next unasked before (inl same) = subst (AsksOnce asks made first) (sym same) before
  asks_on asks made old first now next unasked before (inr h) =
      let k = unasked h.0 in
      inr (k.0, subst (λ x. asks x next) k.1 h.1)

  -- nor had one whose signer fails now
  pub fails_on : (left faults : K → ℕ) (made old : Option (List ℕ)) (first now next : K) → IsUnasked made old first now → FailsSign old (left now) (faults now) (faults next) → FailsSign made (left first) (faults first) (faults next)
  fails_on left faults made old first now next unasked h = ((unasked h.0).0, by_why h.1)
    where
      by_why : CanFail (left now) (faults now) (faults next) → CanFail (left first) (faults first) (faults next)
      by_why (inl none) = inl (sym (ap left (unasked h.0).1) ∙ none)
      by_why (inr rose) = inr (subst (λ x. HasRisen (faults x) (faults next)) (unasked h.0).1 rose)

  pub counts_on : (A B : Type 0) (left faults : K → ℕ) (made old : Option (List ℕ)) (first now next : K) → IsUnasked made old first now → faults now ≡ faults first
      → (stop : Stop) → CountsSign {A = A} old (left now) (faults now) (faults next) (Err stop) → CountsSign {A = B} made (left first) (faults first) (faults next) (Err stop)
  counts_on A B left faults made old first now next unasked same stops.SignFault h = fails_on left faults made old first now next unasked h
  counts_on A B left faults made old first now next unasked same stops.NoMemory h = h ∙ same

  -- ---- all that a call asks of the signer, behind one that went well

  module _ {gives : K → List ℕ → List ℕ → Bool} {asks : K → K → Type 0} {left faults : K → ℕ} {A B C : Type 0} where
    pub signing_on : {made old new : Option (List ℕ)} {first now next : K} {a : A} {b : B} (c : C) → SignsOnce gives asks left faults made old first now (Ok a) → SignsOnce gives asks left faults old new now next (Ok b) → SignsOnce gives asks left faults made new first next (Ok c)
    signing_on {made} {old} {new} {first} {now} {next} c before later = record {
      asked = record {
        gives_same = later.asked.gives_same ∙ before.asked.gives_same;
        unasked = unasked_on made old new first now next before.asked.unasked later.asked.unasked;
        once = asks_on asks made old first now next before.asked.unasked before.asked.once later.asked.once;
      };
      counts = later.counts ∙ before.counts;
    }

    pub signing_fails : {made old new : Option (List ℕ)} {first now next : K} {a : A} (stop : Stop) → SignsOnce gives asks left faults made old first now (Ok a) → SignsOnce {A = B} gives asks left faults old new now next (Err stop) → SignsOnce {A = C} gives asks left faults made new first next (Err stop)
    signing_fails {made} {old} {new} {first} {now} {next} stop before later = record {
      asked = record {
        gives_same = later.asked.gives_same ∙ before.asked.gives_same;
        unasked = tt;
        once = asks_on asks made old first now next before.asked.unasked before.asked.once later.asked.once;
      };
      counts = counts_on B C left faults made old first now next before.asked.unasked before.counts stop later.counts;
    }
