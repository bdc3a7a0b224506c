-- A text is written in pieces.
use Rattle.std.proofs.Common.{◌≡◌, ◌≢◌, ◌⊎◌, ℕ, zero, suc, ◌<◌, List, [], ◌++◌, take, drop, Option, Some, None, IfOk, OnErr, MatchOption, Result, Ok, Err, refl, sym, ap, subst, ◌∙◌, arith, inl, inr, append_assoc, append-nil}
use Rattle.std.specs.Io.KnownBytes.{Appends, Keeps, WriteAppends}
use Rattle.std.proofs.lemmas.List.{take-append-drop}
use Rattle.xa_output.specs.Output.{AppendsPart}

pub nothing_appended : (known : Option (List ℕ)) → Appends known known []
nothing_appended None = tt
nothing_appended (Some xs) = sym (append-nil xs)

pub appends_both : (a b c : Option (List ℕ)) (x y : List ℕ) → Appends a b x → Appends b c y → Appends a c (x ++ y)
appends_both None b c x y h k = tt
appends_both (Some xs) None c x y h k = absurd h
appends_both (Some xs) (Some ys) None x y h k = absurd k
appends_both (Some xs) (Some ys) (Some zs) x y h k = k ∙ (ap (λ (l : List ℕ). l ++ y) h ∙ append_assoc xs x y)

pub keeps_appends : (a b : Option (List ℕ)) → Keeps a b → Appends a b []
keeps_appends None b h = tt
keeps_appends (Some xs) None h = absurd h
keeps_appends (Some xs) (Some ys) h = h ∙ sym (append-nil xs)

-- what is left of a text, and that the writer took what stands before it
abbrev pub LeftOf : List ℕ → Option (List ℕ) → Option (List ℕ) → Option (List ℕ) → Type 0
LeftOf text left old new =
    MatchOption left (Appends old new []) (λ rest. (part : List ℕ) × (text ≡ part ++ rest) × Appends old new part)

pub left_over : {E : Type 0} (written : Result ℕ E) (text : List ℕ) (left : Option (List ℕ)) (old new : Option (List ℕ)) →
    IfOk written (λ count. 0 < count → left ≡ Some (drop count text)) → IfOk written (λ count. count ≡ 0 → left ≡ None) →
    OnErr written ((left ≡ None) ⊎ (left ≡ Some text)) → WriteAppends old new written text → LeftOf text left old new
left_over (Ok zero) text left old new taken none erred h = subst (λ (o : Option (List ℕ)). LeftOf text o old new) (sym (none refl)) h
left_over (Ok (suc n)) text left old new taken none erred h =
    subst (λ (o : Option (List ℕ)). LeftOf text o old new) (sym (taken (omega arith))) (take (suc n) text, sym (take-append-drop (suc n) text), h)
left_over (Err e) text left old new taken none erred h =
    elim erred [
      | inl ended ↦ subst (λ (o : Option (List ℕ)). LeftOf text o old new) (sym ended) (keeps_appends old new h)
      | inr again ↦ subst (λ (o : Option (List ℕ)). LeftOf text o old new) (sym again) ([], refl, keeps_appends old new h)
    ]

-- a part of a text is written, and the rest stands after it
abbrev pub Written : List ℕ → List ℕ → Option (List ℕ) → Option (List ℕ) → Type 0
Written text rest old new = (part : List ℕ) × (text ≡ part ++ rest) × Appends old new part

pub more_written : (text rest left : List ℕ) (old mid new : Option (List ℕ)) → Written text rest old mid → LeftOf rest (Some left) mid new → Written text left old new
more_written text rest left old mid new before now = (
  before.0 ++ now.0,
  before.1 ∙ (ap (λ (xs : List ℕ). before.0 ++ xs) now.1 ∙ sym (append_assoc before.0 now.0 left)),
  appends_both old mid new before.0 now.0 before.2 now.2,
)

pub part_written : (text rest : List ℕ) (old mid new : Option (List ℕ)) → Written text rest old mid → LeftOf rest None mid new → rest ≢ [] →
    AppendsPart text old new
part_written text rest old mid new before now more = (
  before.0,
  (rest, more, before.1),
  subst (λ (xs : List ℕ). Appends old new xs) (append-nil before.0) (appends_both old mid new before.0 [] before.2 now),
)
