-- What an append that is torn between bytes leaves after a snapshot.
use Rattle.std.proofs.Common.{◌≡◌, ⊎_elim, ℕ, ◌+◌, ◌≤◌, Bool, true, false, not, ◌&&◌, ◌||◌, get_or, List, [], ◌∷◌, ◌++◌, length, take, drop, refl, sym, ◌∙◌, ap, subst, arith, append_assoc, nat_lt, nat_le, nat_eq, length-drop, length-append}
use Rattle.std.proofs.lemmas.Bool.{and_from, and_parts, or_left, or_right, or_cases, eq-eqb}
use Rattle.std.proofs.lemmas.Bool.Decides.{nat_tests}
use Rattle.std.proofs.lemmas.List.{drop_at, get_or-drop, get_or_past, length-take-le}
use Rattle.xa_disk.specs.Disk.{put}
use Rattle.xa_log.specs.Believed.Chain.{start, last, text, headed, behind_text, Rests}
use Rattle.xa_log.specs.Believed.Damage.{is_appended, is_snapshot, goes_on, is_cut}
use Rattle.xa_log.specs.Believed.Generation.{generation}
use Rattle.xa_log.specs.Believed.Group.{closed_by}
use Rattle.xa_log.specs.Believed.Laws.{IsMixed, MixedLaw}
use Rattle.xa_log.specs.declared.format.Format.{Format}
use Rattle.xa_log.specs.declared.format.Format.TheVariants.{One, Two}
use Rattle.xa_log.proofs.Torn.{put_within}

-- the first byte of the first body of a group, where it is written
first_written : (more : ℕ) (prev body : List ℕ) (group : List (List ℕ)) (rest : List ℕ) → is_appended (get_or body 0 0) ≡ true
    → get_or (closed_by more prev (body ∷ group) ++ rest) 4 0 ≡ get_or body 0 0
unfolding headed
first_written more prev [] group rest appended = absurd (cc appended)
first_written more prev (b ∷ body) group rest appended = refl

-- a byte that may stand after a snapshot's closing length
abbrev May : ℕ → Type 0
May byte = (nat_eq byte 0 || is_appended byte) ≡ true

zero_may : (byte : ℕ) → byte ≡ 0 → May byte
zero_may byte is = or_left (nat_eq byte 0) _ (eq-eqb byte 0 is)

-- one that did
stood_may : (tail : List ℕ) → goes_on tail ≡ true → May (get_or tail 4 0)
stood_may tail on = ⊎_elim
    (λ short. zero_may (get_or tail 4 0) (get_or_past tail 4 0 (grind (arith, nat_tests, short))))
    (λ may. may) (or_cases (nat_le (length tail) 4) _ (and_parts (nat_le 4 (length tail)) _ on).1)

may_on : (tail : List ℕ) → 4 ≤ length tail → May (get_or tail 4 0) → goes_on tail ≡ true
may_on tail long may =
    let a : nat_le 4 (length tail) ≡ true = grind (arith, nat_tests) in
    and_from (nat_le 4 (length tail)) _ a (or_right (nat_le (length tail) 4) _ may)

-- what else tells of a break is the bodies' own
same_else : (x y z w : Bool) → (z ≡ true → w ≡ true) → (x && (y && not z)) ≡ false → (x && (y && not w)) ≡ false
same_else true true true w more whole = ap (λ (b : Bool). not b) (more refl)
same_else true true false w more whole = absurd (cc whole)
same_else true false z w more whole = refl
same_else false y z w more whole = refl

module _ (format : Format) (bodies : List (List ℕ)) (body : List ℕ) (group : List (List ℕ)) (more : ℕ) (old file : List ℕ) (rests : Rests format bodies old)
    (appended : is_appended (get_or body 0 0) ≡ true)
    (mixed : IsMixed old (put old (length (text format bodies)) (closed_by more (last (start format) bodies) (body ∷ group))) file) where
  abbrev e : ℕ
  e = length (text format bodies)

  abbrev bytes : List ℕ
  bytes = closed_by more (last (start format) bodies) (body ∷ group)

  long : e ≤ length old
  long = omega (arith, ap (λ (l : List ℕ). length l) rests.split, length-append (text format bodies) rests.rest)

  written : get_or (put old e bytes) (e + 4) 0 ≡ get_or body 0 0
  written =
      let rest : List ℕ = drop (e + length bytes) old in
      let front : length (take e old) ≡ e = length-take-le e old long in
      sym (get_or-drop e (put old e bytes) 4 0)
      ∙ ap (λ (l : List ℕ). get_or (drop e l) 4 0) (put_within old e bytes long ∙ append_assoc (take e old) bytes rest)
      ∙ ap (λ (l : List ℕ). get_or l 4 0) (drop_at (take e old) (bytes ++ rest) e front)
      ∙ first_written more (last (start format) bodies) body group rest appended

  goes : goes_on (behind_text format bodies old) ≡ true → goes_on (behind_text format bodies file) ≡ true
  goes on =
      let parts = (and_parts (nat_le 4 (length (drop e old))) _ on).0 in
      let four : 4 ≤ length (drop e old) = grind (arith, nat_tests, parts) in
      may_on (drop e file) (omega (arith, four, mixed.no_shorter, length-drop e old, length-drop e file))
      (subst May (sym (get_or-drop e file 4 0)) (⊎_elim
      (λ was. subst May (get_or-drop e old 4 0 ∙ sym was) (stood_may (drop e old) on))
      (λ is. ⊎_elim
      (λ new. subst May (sym (new ∙ written)) (or_right (nat_eq (get_or body 0 0) 0) _ appended))
      (λ zero. zero_may (get_or file (e + 4) 0) zero) is)
      (mixed.each (e + 4))))

cut_mixed : (format : Format) (bodies : List (List ℕ)) (old file : List ℕ) → (goes_on (behind_text format bodies old) ≡ true → goes_on (behind_text format bodies file) ≡ true)
    → is_cut format bodies old ≡ false → is_cut format bodies file ≡ false
unfolding is_cut
cut_mixed One bodies old file goes whole = refl
cut_mixed Two bodies old file goes whole =
    same_else (nat_lt 1 (generation bodies)) (is_snapshot bodies) (goes_on (behind_text Two bodies old)) (goes_on (behind_text Two bodies file)) goes whole

pub mixed_law : MixedLaw
mixed_law format [] group more old file rests some whole one appended mixed = absurd (omega (arith, some))
mixed_law format (b ∷ bodies) [] more old file rests some whole one appended mixed = absurd (omega (arith, one))
mixed_law format (b ∷ bodies) (body ∷ group) more old file rests some whole one appended mixed =
    cut_mixed format (b ∷ bodies) old file (goes format (b ∷ bodies) body group more old file rests appended.0 mixed) whole
