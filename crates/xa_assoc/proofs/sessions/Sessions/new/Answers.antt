use Rattle.std.proofs.Common.{ℕ, List, [], ◌∷◌, refl}
use Rattle.xa_assoc.proofs.Bits.{all_free}
use Rattle.xa_assoc.proofs.sessions.Sessions.new.Goals as goal

abbrev full_words : ℕ → List ℕ
full_words v = v ∷ v ∷ v ∷ v ∷ v ∷ v ∷ v ∷ v ∷ v ∷ v ∷ v ∷ v ∷ v ∷ v ∷ v ∷ v ∷ []

pub returns : goal.returns
returns c = λ s none nobody. record {
  opened = λ n. rw (none, c.new.ensures.empty) refl;
  active = λ n. rw (nobody, c.new.ensures.empty) refl;
  own = λ n xid. rw (nobody, c.new.ensures.empty) refl;
  scan = λ n. rw (none, c.new.ensures.empty) refl;
  limit = λ n. rw (none, c.new.ensures.empty) refl;
  connected = rw (none, c.new.ensures.empty) refl;
  free = λ k below. rw (c.new.ensures.empty) (all_free (full_words 18446744073709551615) 18446744073709551615 (refl, (refl, (refl, (refl, (refl, (refl, (refl, (refl, (refl, (refl, (refl, (refl, (refl, (refl, (refl, (refl, tt)))))))))))))))) refl refl k below);
}
