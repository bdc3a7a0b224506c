-- Who is connected, where sessions change.
use Rattle.std.proofs.Common.{◌≡◌, ℕ, ◌==◌, Bool, true, false, cond, Option, Some, None, refl, ap, ◌∙◌}
use Rattle.std.proofs.Math.Path.{fun_ext}
use Rattle.std.specs.Prelude.{option_map, is_some}
use Rattle.xa_xid.specs.Triple.{Triple}
use Rattle.xa_assoc.specs.declared.sessions.Sessions.{Sessions}
use Rattle.xa_assoc.specs.Company.{company, company_of, Gains, Loses}
use Rattle.xa_assoc.specs.Seats.{connected_in, opened_at}
use Rattle.xa_assoc.specs.Changes.{Comes, Goes, Sets, Clears, IsSameRoom}

pub same_company : (m m' : Sessions) → ((n : ℕ) → is_some (opened_at m' n) ≡ is_some (opened_at m n)) → connected_in m' ≡ connected_in m → company_of m' ≡ company_of m
unfolding company_of
same_company m m' same many =
    ap (λ (who : ℕ → Bool). company who (connected_in m')) (fun_ext (λ n. same n)) ∙ ap (λ (k : ℕ). company (λ n. is_some (opened_at m n)) k) many

mapped_some : (f : Bool → Bool) (o : Option Bool) → is_some (option_map f o) ≡ is_some o
mapped_some f None = refl
mapped_some f (Some x) = refl

cond_same : (b : Bool) (f : Bool → Bool) (o : Option Bool) → is_some (cond b (option_map f o) o) ≡ is_some o
cond_same true f o = mapped_some f o
cond_same false f o = refl

pub room_company : (m m' : Sessions) → IsSameRoom m m' → company_of m' ≡ company_of m
room_company m m' r = same_company m m' (λ n. ap (λ (o : Option Bool). is_some o) (r.opened n)) r.connected

pub set_company : (m m' : Sessions) (n : ℕ) (f : Bool → Bool) (g : Option (Option Triple) → Option (Option Triple)) (h : ℕ → ℕ) → Sets m n f g h m' → company_of m' ≡ company_of m
set_company m m' n f g h s = same_company m m' (λ k. ap (λ (o : Option Bool). is_some o) (s.opened k) ∙ cond_same (n == k) f (opened_at m k)) s.connected

pub cleared_company : (m m' : Sessions) → Clears m m' → company_of m' ≡ company_of m
cleared_company m m' c = same_company m m' (λ n. ap (λ (o : Option Bool). is_some o) (c.opened n)) c.connected

cond_some : (b : Bool) (o p : Option Bool) → is_some (cond b o p) ≡ cond b (is_some o) (is_some p)
cond_some true o p = refl
cond_some false o p = refl

none_is : (o : Option Bool) → is_some o ≡ false → o ≡ None
none_is None e = refl
none_is (Some x) e = absurd (cc e)

pub come_company : (m m' : Sessions) (n : ℕ) → is_some (opened_at m n) ≡ false → Comes m n m' → Gains (company_of m) n (company_of m')
unfolding company_of
come_company m m' n none c = record {
  new = none;
  has = λ k. ap (λ (o : Option Bool). is_some o) (c.opened k) ∙ cond_some (n == k) (Some false) (opened_at m k);
  count = c.connected (none_is (opened_at m n) none);
}

pub gone_company : (m m' : Sessions) (n : ℕ) → Goes m n m' → Loses (company_of m) n (company_of m')
unfolding company_of
gone_company m m' n g = record {
  has = λ k. ap (λ (o : Option Bool). is_some o) (g.opened k) ∙ cond_some (n == k) None (opened_at m k);
  count = g.connected;
}
