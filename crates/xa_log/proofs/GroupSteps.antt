-- A group's records, one more at a time.
use Rattle.std.proofs.Common.{◌≡◌, ℕ, zero, suc, ◌+◌, ◌-◌, ◌≤◌, ◌<◌, List, [], ◌∷◌, ◌++◌, length, take, get_or, sym, ◌∙◌, ap, arith, append_assoc, Vec, Global}
use Rattle.std.specs.List.{AllByRecursion}
use Rattle.std.proofs.lemmas.List.{take_at, take-take, take_all, length-map}
use Rattle.xa_log.specs.Ahead.{ready}
use Rattle.xa_log.specs.Believed.Chain.{closing, last, record_of, records, IsBody}
use Rattle.xa_log.specs.Believed.Group.{group_bytes, as_one, closed}
use Rattle.xa_log.specs.Reading.{bodies_of}
use Rattle.xa_log.specs.declared.format.Format.{Format}
use Rattle.xa_log.proofs.Grouped.{length-records, bytes_as_one}
use Rattle.xa_log.proofs.Records.{limit, records_more}
use Rattle.xa_log.proofs.Steps.{next_body}

bytes_more : (group : List (List ℕ)) (body : List ℕ) → group_bytes (group ++ body ∷ []) ≡ group_bytes group + (36 + length body)
bytes_more [] body = omega arith
bytes_more (b ∷ group) body = omega (arith, bytes_more group body)

bytes_few : (n : ℕ) (group : List (List ℕ)) → group_bytes (take n group) ≤ group_bytes group
bytes_few zero group = omega arith
bytes_few (suc n) [] = omega arith
bytes_few (suc n) (b ∷ group) = omega (arith, bytes_few n group)

module _ (bodies : List (Vec ℕ Global)) (i : ℕ) (v : Vec ℕ Global) (lt : i < length bodies) (is : v ≡ get_or bodies i v) where
  pub next : take (i + 1) (bodies_of bodies) ≡ take i (bodies_of bodies) ++ v.items ∷ []
  next = next_body bodies i v lt is

  pub bytes_next : group_bytes (take (i + 1) (bodies_of bodies)) ≡ group_bytes (take i (bodies_of bodies)) + (36 + length v.items)
  bytes_next = ap group_bytes next ∙ bytes_more (take i (bodies_of bodies)) v.items

  -- there is room for it
  pub within : group_bytes (take i (bodies_of bodies)) + (36 + length v.items) ≤ group_bytes (bodies_of bodies)
  within = omega (arith, bytes_next, bytes_few (i + 1) (bodies_of bodies))

-- all of them
pub all_taken : (bodies : List (Vec ℕ Global)) (i : ℕ) → length bodies ≤ i → take i (bodies_of bodies) ≡ bodies_of bodies
all_taken bodies i past = take_all i (bodies_of bodies) (omega (arith, past, length-map bodies (λ (b : Vec ℕ Global). b.items)))

pub step_text : (prev : List ℕ) (done : List (List ℕ)) (body old new d : List ℕ) (at : ℕ) → at ≡ group_bytes done → d ≡ last prev done → take (at + 4) old ≡ closed prev done
    → take (at + (40 + length body)) new ≡ take at old ++ (record_of d body ++ closing) → take (at + (36 + length body) + 4) new ≡ closed prev (done ++ body ∷ [])
step_text prev done body old new d at here digest_is was is =
    let long : length (records prev done) ≡ at = length-records prev done ∙ sym here in
    let front : take at old ≡ records prev done =
    sym (take-take at (at + 4) old (omega arith)) ∙ ap (λ (l : List ℕ). take at l) was ∙ take_at (records prev done) closing at long in
    let n : at + (36 + length body) + 4 ≡ at + (40 + length body) = omega arith in
    ap (λ (k : ℕ). take k new) n ∙ is
    ∙ (λ i. front i ++ (record_of (digest_is i) body ++ closing))
    ∙ sym (append_assoc (records prev done) (record_of (last prev done) body) closing)
    ∙ ap (λ (l : List ℕ). l ++ closing) (sym (records_more prev done body))

-- each is within the limit of any format
pub small_group : (format : Format) (group : List (List ℕ)) → AllByRecursion (IsBody format) group → AllByRecursion (λ body. length body ≤ 8388608) group
small_group format [] ok = tt
small_group format (body ∷ group) ok = (omega (arith, ok.0.small, limit format), small_group format group ok.1)

module _ (group : List (List ℕ)) (some : 1 ≤ length group) (from to : ℕ) (is : to ≡ from + group_bytes group + 4) where
  pub ends : to ≡ from + 40 + as_one group
  ends = omega (arith, is, bytes_as_one group some)

  pub end_after : to - 4 ≡ from + (36 + as_one group)
  end_after = omega (arith, is, bytes_as_one group some)

  pub room_of : (more most : ℕ) → to + more ≤ most → from + (40 + as_one group + more) ≤ most
  room_of more most fits = omega (arith, fits, ends)

  pub ready_same : (r most known : ℕ) → r ≡ ready from to most known → r ≡ ready from (from + 40 + as_one group) most known
  ready_same r most known exact = exact ∙ ap (λ (t : ℕ). ready from t most known) ends
