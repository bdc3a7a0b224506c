-- What is kept of each key once the chains of a branch's keys are there.
use Rattle.std.proofs.Common.{◌≡◌, ℕ, Bool, true, false, ◌||◌, List, [], ◌∷◌, Option, Some, None, refl, sym, ap, ◌∙◌, subst}
use Rattle.std.specs.Prelude.{bytes_eq, IsSome, is_some, if◌then◌else◌}
use Rattle.xa_codes.specs.declared.write.Write.{Write}
use Rattle.mv_chain.specs.declared.version.Version.{Version}
use Rattle.mv_chain.specs.Chain.{fresh}
use Rattle.mv_rules.specs.declared.records.Records.{Records}
use Rattle.mv_rules.specs.Records.{index_of, chain_at}
use Rattle.mv_rules.specs.Tidy.{kept_of, KeepsBut}
use Rattle.mv_rules.specs.Noted.{or_fresh, writes_key, Begins}
use Rattle.mv_rules.proofs.Tests.{same_key}
use Rattle.mv_rules.proofs.Tidied.{absent_kept}

pub begins_none : (r : Records) → Begins [] r r
begins_none r = record {
  kept = λ q. refl;
  notes = refl;
}

-- one key more
module _ (w : Write) (done : List Write) (r mid r2 : Records) (b : Begins done r mid) (known : IsSome (index_of w.key mid) → r2 ≡ mid) (made : index_of w.key mid ≡ None → KeepsBut w.key (λ _. Some fresh) mid r2) where
  abbrev kept_if : Bool → List ℕ → Option (List Version)
  kept_if x q = if x then Some (or_fresh (kept_of q r)) else kept_of q r

  -- where the key was there, it had been kept before, unless it is one of the others
  there : (i : ℕ) → index_of w.key mid ≡ Some i → (q : List ℕ) (x y : Bool) → bytes_eq q w.key ≡ x → writes_key q done ≡ y → kept_of q mid ≡ kept_if y q → kept_of q mid ≡ kept_if (x || y) q
  there i e q true true is all same = same
  there i e q false y is all same = same
  there i e q true false is all same =
      let here : kept_of q mid ≡ Some (chain_at i mid) = ap (λ k. kept_of k mid) (same_key q w.key is) ∙ ap (λ o. kept_at o) e in
      let before : kept_of q r ≡ Some (chain_at i mid) = sym same ∙ here in
      here ∙ sym (ap (λ o. Some (or_fresh o)) before)
    where
      kept_at : Option ℕ → Option (List Version)
      kept_at None = None
      kept_at (Some j) = Some (chain_at j mid)

  -- where it was made, it had not been kept
  new : index_of w.key mid ≡ None → (q : List ℕ) (x y : Bool) → bytes_eq q w.key ≡ x → writes_key q done ≡ y → kept_of q mid ≡ kept_if y q → (if x then Some fresh else kept_of q mid) ≡ kept_if (x || y) q
  new e q false y is all same = same
  new e q true true is all same = absurd (cc (same, gone))
    where
      gone : kept_of q mid ≡ None
      gone = ap (λ k. kept_of k mid) (same_key q w.key is) ∙ absent_kept mid w.key e
  new e q true false is all same = sym (ap (λ o. Some (or_fresh o)) (sym same ∙ gone))
    where
      gone : kept_of q mid ≡ None
      gone = ap (λ k. kept_of k mid) (same_key q w.key is) ∙ absent_kept mid w.key e

  pub begins_more : r2.notes ≡ mid.notes → Begins (w ∷ done) r r2
  begins_more same = record {
    kept = λ q. at q (index_of w.key mid) refl;
    notes = same ∙ b.notes;
  }
    where
      at : (q : List ℕ) (o : Option ℕ) → index_of w.key mid ≡ o → kept_of q r2 ≡ kept_if (bytes_eq q w.key || writes_key q done) q
      at q None e = made e q ∙ new e q (bytes_eq q w.key) (writes_key q done) refl refl (b.kept q)
      at q (Some i) e = ap (λ x. kept_of q x) (known (ap is_some e)) ∙ there i e q (bytes_eq q w.key) (writes_key q done) refl refl (b.kept q)
