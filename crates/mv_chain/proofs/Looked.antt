-- What a look tells of a chain's versions.
use Rattle.std.proofs.Common.{◌≡◌, ℕ, zero, suc, ◌<◌, ◌≤◌, Bool, true, false, ◌⊎◌, inl, inr, List, [], ◌∷◌, length, get_or, set, Option, None, Some, refl, sym, ap, ◌∙◌, subst, arith}
use Rattle.std.specs.Prelude.{◌==◌, MatchOption}
use Rattle.std.specs.List.{AllByRecursion as Each}
use Rattle.std.proofs.lemmas.Bool.Decides.{nat_tests}
use Rattle.mv_chain.specs.declared.version.Version.{Version}
use Rattle.mv_chain.specs.declared.look.Look.{Look}
use Rattle.mv_chain.specs.Accesses.{Written, Answered, nobody, seen, is_busy, read_by}
use Rattle.mv_chain.specs.Chain.{base, shows, is_marked, raised, marked, may_install, StandsFor, IsChain, IsIndex}
use Rattle.mv_chain.specs.Look.{count_upto, looked}
use Rattle.mv_chain.specs.Target.{IsOwn, IsNew}
use Rattle.mv_chain.proofs.Chains.{pending_shown, none_pending, index_within, index_new, shows_none, shows_last}
use Rattle.mv_chain.proofs.Exact.{marked_some, marked_nothing}
use Rattle.mv_chain.proofs.Kept.{own_decided}
use Rattle.mv_chain.proofs.Anywhere.{index_for, marked_stands, decided_refuses}
use Rattle.mv_chain.proofs.Sought.{index_counts}

count_within : (t : ℕ) (vs : List Version) → count_upto t vs ≤ length vs
count_within t [] = omega arith
count_within t (v ∷ vs) = grind (arith, nat_tests, count_within t vs)

module _ (t : ℕ) (vs : List Version) (c : IsChain vs) (look : Look) (is : look ≡ looked t vs) where
  at_is : look.at ≡ t
  at_is = ap (λ l. l.at) is

  from_is : look.from ≡ (shows t vs).from
  from_is = ap (λ l. l.from) is

  pending_is : look.pending ≡ (shows t vs).pending
  pending_is = ap (λ l. l.pending) is

  late_is : look.late ≡ is_marked t vs
  late_is = ap (λ l. l.late) is

  count_is : look.count ≡ count_upto t vs
  count_is = ap (λ l. l.count) is

  with_version : IsIndex t look.count vs
  with_version = at (index_for t vs c)
    where
      at : (i : ℕ) × IsIndex t i vs → IsIndex t look.count vs
      at (i, h) = subst (λ (n : ℕ). IsIndex t n vs) (index_counts t i vs h ∙ sym count_is) h

  pub look_index : (i : ℕ) → look.count ≡ suc i → IsIndex t (suc i) vs
  look_index i e = subst (λ (n : ℕ). IsIndex t n vs) e with_version

  pub look_first : look.count ≡ 0 → IsIndex t zero vs
  look_first e = subst (λ (n : ℕ). IsIndex t n vs) e with_version

  pub look_beyond : (n : ℕ) → n ≡ length vs → n < look.count → ⊥
  look_beyond n e lt = omega (arith, e, lt, count_is, count_within t vs)

  stamp_is : (i : ℕ) (d : Version) → look.count ≡ suc i → (get_or vs i d).timestamp ≡ look.from
  stamp_is i d e = sym (from_is ∙ ap (λ s. s.from) (shows_last t i vs d c (look_index i e)))

  still_pending : (i : ℕ) (d : Version) → look.count ≡ suc i → (get_or vs i d).pending ≡ look.pending
  still_pending i d e = sym (pending_is ∙ (ap (λ s. s.pending) (shows_last t i vs d c (look_index i e)) ∙ pending_shown (get_or vs i d)))

  -- a read
  pub look_value_none : (n : ℕ) → n ≡ length vs → (look.count ≡ 0) ⊎ (n < look.count) → None ≡ (shows t vs).value
  look_value_none n e (inl none) = sym (ap (λ s. s.value) (shows_none t vs (look_first none)))
  look_value_none n e (inr beyond) = absurd (look_beyond n e beyond)

  pub look_marks : (i : ℕ) → look.count ≡ suc i → set vs i (raised look.from look.at (get_or vs i base)) ≡ marked (shows t vs).from t vs
  look_marks i e = rw (from_is, at_is) (marked_some (shows t vs).from t i vs base c (look_index i e))

  pub look_marks_none : (n : ℕ) → n ≡ length vs → (look.count ≡ 0) ⊎ (n < look.count) → vs ≡ marked (shows t vs).from t vs
  look_marks_none n e (inl none) = let h = look_first none in marked_nothing (shows t vs).from t vs h (ap (λ s. s.from) (shows_none t vs h))
  look_marks_none n e (inr beyond) = absurd (look_beyond n e beyond)

  -- a write
  pub target_late : (n : ℕ) → n ≡ length vs → (look.late ≡ true) ⊎ (n < look.count) → may_install t vs ≡ false
  target_late n e (inl late) = rw (sym late_is ∙ late) refl
  target_late n e (inr beyond) = absurd (look_beyond n e beyond)

  pub target_decided : (i : ℕ) → look.count ≡ suc i → look.from ≡ look.at → look.pending ≡ false → may_install t vs ≡ false
  target_decided i e own p = decided_refuses t i vs (index_within t i vs (look_index i e)) (stamp_is i base e ∙ (own ∙ at_is)) (still_pending i base e ∙ p)

  pub target_own : (i : ℕ) → look.count ≡ suc i → look.from ≡ look.at → look.pending ≡ true → look.late ≡ false → IsOwn t i vs
  target_own i e own p timely =
      record {
        within = index_within t i vs (look_index i e);
        index = look_index i e;
        own = λ d. (stamp_is i d e ∙ (own ∙ at_is), still_pending i d e ∙ p);
        in_time = sym late_is ∙ timely;
      }

  none_own : (look.count ≡ 0) ⊎ (look.from ≡ look.at → ⊥) → Each (λ v. v.timestamp ≡ t → ⊥) vs
  none_own other = index_new t look.count vs c with_version (λ j d e own. at j d e own other)
    where
      at : (j : ℕ) (d : Version) → look.count ≡ suc j → (get_or vs j d).timestamp ≡ t → (look.count ≡ 0) ⊎ (look.from ≡ look.at → ⊥) → ⊥
      at j d e own (inl none) = omega (arith, none, e)
      at j d e own (inr ne) = ne (sym (stamp_is j d e) ∙ (own ∙ sym at_is))

  pub target_new : (n : ℕ) → n ≡ length vs → look.count ≤ n → look.late ≡ false → (look.count ≡ 0) ⊎ (look.from ≡ look.at → ⊥) → IsNew t look.count vs
  target_new n e within timely other =
      record {
        within = omega (arith, within, e);
        index = with_version;
        none = none_own other;
        in_time = sym late_is ∙ timely;
      }

  -- a settling
  no_pending : (i : ℕ) → look.count ≡ suc i → look.pending ≡ false → Each (λ v. v.timestamp ≡ t → v.pending ≡ false) vs
  no_pending i e p = at ((get_or vs i base).timestamp == t) refl
    where
      at : (q : Bool) → ((get_or vs i base).timestamp == t) ≡ q → Each (λ v. v.timestamp ≡ t → v.pending ≡ false) vs
      at true q = own_decided t i vs base (index_within t i vs (look_index i e)) c (grind (arith, nat_tests, q)) (still_pending i base e ∙ p)
      at false q = none_pending t vs (none_own (inr (λ own. grind (arith, nat_tests, q, stamp_is i base e, own, at_is))))

  pub look_undecided : (look.pending ≡ false) ⊎ (look.from ≡ t → ⊥) → Each (λ v. v.timestamp ≡ t → v.pending ≡ false) vs
  look_undecided (inr ne) = none_pending t vs (none_own (inr (λ own. ne (own ∙ at_is))))
  look_undecided (inl p) = at look.count refl
    where
      at : (n : ℕ) → look.count ≡ n → Each (λ v. v.timestamp ≡ t → v.pending ≡ false) vs
      at zero e = none_pending t vs (none_own (inl e))
      at (suc i) e = no_pending i e p

  pub look_own : (n : ℕ) (r : Option ℕ) → n ≡ length vs → look.pending ≡ true → look.from ≡ t → MatchOption r ((look.count ≡ 0) ⊎ (n < look.count)) (λ i. (look.count ≡ suc i) × (i < n))
      → MatchOption r (Each (λ v. v.timestamp ≡ t → v.pending ≡ false) vs) (λ i. IsIndex t (suc i) vs × ((d : Version) → ((get_or vs i d).timestamp ≡ t) × ((get_or vs i d).pending ≡ true)))
  look_own n None e p own (inl none) = none_pending t vs (none_own (inl none))
  look_own n None e p own (inr beyond) = absurd (look_beyond n e beyond)
  look_own n (Some i) e p own h = (look_index i h.0, λ d. (stamp_is i d h.0 ∙ own, still_pending i d h.0 ∙ p))

-- an answered read, of what was looked at
pub look_stands : (t : ℕ) (vs : List Version) → IsChain vs → (key : List ℕ) (low : ℕ) (ws : List Written) (rs : List Answered) → StandsFor key low ws rs vs → low ≤ t → is_busy t (seen key t ws) ≡ false
    → StandsFor key low ws (read_by t key (seen key t ws).from ∷ rs) (marked (shows t vs).from t vs)
look_stands t vs c key low ws rs s le free =
    subst (λ (f : ℕ). StandsFor key low ws (read_by t key (seen key t ws).from ∷ rs) (marked f t vs)) (sym (ap (λ r. r.from) (s.seen nobody t le)))
    (marked_stands (seen key t ws).from t vs c key low ws rs s le refl free)
