-- Branches are counted from the last record to the first one.
use Rattle.std.proofs.Common.{◌≡◌, ◌∙◌, ◌≤◌, ◌<◌, ◌+◌, Bool, true, false, ℕ, suc, zero, cond, List, [], ◌∷◌, ◌++◌, length, refl, sym, ap, subst, arith, append_assoc, append-nil, length-append}
use Rattle.xa_check.specs.Prepared.{completed_in, prepared_in, with_body}
use Rattle.std.proofs.lemmas.List.{length-map}
use Rattle.std.specs.Prelude.{Vec}
use Rattle.std.specs.declared.alloc.Global.{Global}
use Rattle.xa_log.specs.Reading.{bodies_of}
use Rattle.xa_xid.specs.Triple.{Triple}

one_or_none : (adds : Bool) (n m : ℕ) → n ≤ m → cond adds (n + 1) n ≤ suc m
one_or_none true n m few = omega (arith, few)
one_or_none false n m few = omega (arith, few)

few_prepared : (bodies : List (List ℕ)) → prepared_in bodies ≤ length bodies
few_prepared [] = omega arith
few_prepared (body ∷ bodies) =
    one_or_none (with_body (completed_in bodies) body).0 (prepared_in bodies) (length bodies) (few_prepared bodies)

-- the last bodies are done
abbrev pub Counted : List (List ℕ) → List (List ℕ) → List Triple → ℕ → Type 0
Counted bodies rest completed count =
    (done : List (List ℕ)) × (bodies ≡ rest ++ done) × (completed ≡ completed_in done) × (count ≡ prepared_in done)

pub none_counted : (bodies : List (List ℕ)) (completed : List Triple) → completed ≡ [] → Counted bodies bodies completed 0
none_counted bodies completed none = ([], sym (append-nil bodies), none, refl)

pub all_counted : (bodies rest : List (List ℕ)) (completed : List Triple) (count : ℕ) → rest ≡ [] → Counted bodies rest completed count
    → count ≡ prepared_in bodies
all_counted bodies rest completed count none (done, split, keys, is) =
    is ∙ ap prepared_in (sym (split ∙ ap (λ (l : List (List ℕ)). l ++ done) none))

pub one_counted : (bodies rest others : List (List ℕ)) (body : List ℕ) (old new : List Triple) (count : ℕ) (adds : Bool)
    → rest ≡ others ++ body ∷ [] → (adds, new) ≡ with_body old body → Counted bodies rest old count
    → Counted bodies others new (cond adds (count + 1) count)
one_counted bodies rest others body old new count adds cut is (done, split, keys, counted) =
    let now : (adds, new) ≡ with_body (completed_in done) body = is ∙ ap (λ (l : List Triple). with_body l body) keys in (
      body ∷ done,
      split ∙ (ap (λ (l : List (List ℕ)). l ++ done) cut ∙ append_assoc others (body ∷ []) done),
      ap (λ (p : Bool × List Triple). p.1) now,
      (λ i. cond ((now i).0) (counted i + 1) (counted i)),
    )

-- there are no more of them than bodies
count_few : (bodies rest : List (List ℕ)) (completed : List Triple) (count : ℕ) → Counted bodies rest completed count
    → count + length rest ≤ length bodies
count_few bodies rest completed count (done, split, keys, is) =
    omega (arith, ap length split, length-append rest done, few_prepared done, is)

pub count_below : (bodies rest others : List (Vec ℕ Global)) (body : Vec ℕ Global) (completed : List Triple) (count : ℕ)
    → rest ≡ others ++ body ∷ [] → Counted (bodies_of bodies) (bodies_of rest) completed count → count < length bodies
count_below bodies rest others body completed count cut counted =
    omega (
      arith,
      count_few (bodies_of bodies) (bodies_of rest) completed count counted,
      length-map bodies (λ (b : Vec ℕ Global). b.items),
      length-map rest (λ (b : Vec ℕ Global). b.items),
      ap length cut,
      length-append others (body ∷ []),
    )
