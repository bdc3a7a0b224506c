-- Where a log doesn't break off.
use Rattle.std.proofs.Common.{◌≡◌, ◌⊎◌, inl, inr, ℕ, zero, suc, ◌+◌, ◌≤◌, ◌<◌, Bool, true, false, not, ◌&&◌, ◌||◌, get_or, List, [], ◌∷◌, ◌++◌, length, take, drop, replicate, refl, sym, ◌∙◌, ap, subst, arith, cond, nat_lt, nat_le, nat_eq, length-drop}
use Rattle.std.specs.List.{AllByRecursion}
use Rattle.std.proofs.lemmas.Bool.{cases_Bool, and_left, and_from, or_left, or_right, eq-eqb}
use Rattle.std.proofs.lemmas.Bool.Decides.{nat_tests}
use Rattle.std.proofs.lemmas.List.{drop_at, get_or-take, take-take, length-take, length-replicate}
use Rattle.std.specs.Int.{w32, from_be_bytes}
use Rattle.xa_log.specs.Believed.Chain.{start, last, begins, body_at, digest_at, rest_at, is_record, size_at, bodies_from, format_in, logged, text, behind_text, Rests}
use Rattle.xa_log.specs.Believed.Damage.{is_appended, is_cut, is_snapshot, goes_on, shows_first, lost_first, breaks_behind, breaks_off, is_damaged, is_headless, AreAppended}
use Rattle.xa_log.specs.Believed.Generation.{generation, number_in}
use Rattle.xa_log.specs.Believed.LeftOut.{digest_left, has_own, left_out, stops_short, bodies_left, written_behind}
use Rattle.xa_log.proofs.Mend.{written_empty}
use Rattle.xa_log.specs.Believed.Pair.{has_log}
use Rattle.xa_log.specs.declared.format.Format.{Format}
use Rattle.xa_log.specs.declared.format.Format.TheVariants.{One, Two}
use Rattle.xa_log.proofs.Records.{bodies_closed, format_text, length-text, record_to, rests_logged}

and_right : (x y : Bool) → y ≡ false → (x && y) ≡ false
and_right true y is = is
and_right false y is = refl

-- ---- a file's log is that of its bodies

pub damaged_of : (format : Format) (bodies : List (List ℕ)) (file : List ℕ) → Rests format bodies file → is_damaged file ≡ breaks_off format bodies file
unfolding is_damaged
damaged_of format bodies file r =
    let f : format_in file ≡ format = ap format_in r.split ∙ format_text format bodies r.rest in
    λ i. breaks_off (f i) (rests_logged format bodies file r i) file

pub whole_file : (format : Format) (bodies : List (List ℕ)) (file : List ℕ) → Rests format bodies file → breaks_off format bodies file ≡ false → is_damaged file ≡ false
whole_file format bodies file r whole = damaged_of format bodies file r ∙ whole

-- ---- of no records

behind_none : (format : Format) (file : List ℕ) → behind_text format [] file ≡ drop 8 file
behind_none format file = ap (λ (n : ℕ). drop n file) (length-text format [])

begun : (format : Format) (m : ℕ) (prev x : List ℕ) → 1 ≤ m → is_record format prev x ≡ true → bodies_from format m prev x ≡ [] → ⊥
begun format zero prev x some is none = absurd (omega arith)
begun format (suc m) prev x some is none =
    cc (sym (ap (λ (b : Bool). cond b (body_at x ∷ bodies_from format m (digest_at prev x) (rest_at x)) []) is) ∙ none)

-- what no record chains in begins with none
pub none_begins : (file : List ℕ) → logged file ≡ [] → begins file ≡ false
none_begins file none = elim (cases_Bool (begins file)) [
  | inl there ↦ absurd (begun (format_in file) (length file) (start (format_in file)) (drop 8 file)
      (omega (arith, (record_to (format_in file) (start (format_in file)) (drop 8 file) there).whole, length-drop 8 file)) there none)
  | inr other ↦ other
]

-- a log that shows no first record isn't damaged where it has none
pub none_damaged : (file : List ℕ) → has_log file ≡ true → is_headless file ≡ false → logged file ≡ [] → is_damaged file ≡ false
unfolding is_damaged breaks_off is_headless
none_damaged file log headed none =
    let f : Format = format_in file in
    let rest : Bool = not (begins file) && lost_first f (take 41 (drop 8 file)) in
    let a : rest ≡ false = sym (ap (λ (b : Bool). b && rest) log) ∙ headed in
    let b : lost_first f (take 41 (drop 8 file)) ≡ false = sym (ap (λ (b : Bool). not b && lost_first f (take 41 (drop 8 file))) (none_begins file none)) ∙ a in
    ap (λ (l : List (List ℕ)). breaks_off f l file) none ∙ ap (λ (l : List ℕ). lost_first f (take 41 l)) (behind_none f file) ∙ b

-- one that isn't damaged shows none that doesn't chain
pub damaged_headed : (file : List ℕ) → is_damaged file ≡ false → is_headless file ≡ false
unfolding is_damaged breaks_off is_headless
damaged_headed file whole = elim (cases_Bool (begins file)) [
  | inl there ↦ and_right (has_log file) _ (ap (λ (b : Bool). not b && lost_first (format_in file) (take 41 (drop 8 file))) there)
  | inr other ↦
      let f : Format = format_in file in
      let none : logged file ≡ [] = bodies_closed f (length file) (start f) (drop 8 file) other in
      let lost : lost_first f (take 41 (drop 8 file)) ≡ false =
      sym (ap (λ (l : List (List ℕ)). breaks_off f l file) none ∙ ap (λ (l : List ℕ). lost_first f (take 41 l)) (behind_none f file)) ∙ whole in
      and_right (has_log file) _ (and_right (not (begins file)) _ lost)
]

-- one at whose front a record chains shows none either
pub begun_headed : (file : List ℕ) → begins file ≡ true → is_headless file ≡ false
unfolding is_headless
begun_headed file there = and_right (has_log file) _ (ap (λ (b : Bool). not b && lost_first (format_in file) (take 41 (drop 8 file))) there)

front_size : (bytes : List ℕ) → size_at (take 41 bytes) ≡ size_at bytes
unfolding size_at
front_size bytes = ap (λ (l : List ℕ). from_be_bytes w32 l) (take-take 4 41 bytes (omega arith))

pub none_shown : (format : Format) (bytes : List ℕ) → size_at bytes ≡ 0 → lost_first format bytes ≡ false
none_shown format bytes closed =
    let a : nat_eq (size_at bytes) 0 ≡ true = eq-eqb (size_at bytes) 0 closed in
    and_left (shows_first bytes) _ (and_left (not (nat_eq (size_at bytes) 0)) _ (ap (λ (b : Bool). not b) a))

-- nor one with a length 0 after its name
pub closed_headed : (file : List ℕ) → size_at (drop 8 file) ≡ 0 → is_headless file ≡ false
unfolding is_headless
closed_headed file closed = and_right (has_log file) _ (and_right (not (begins file)) _ (none_shown (format_in file) (take 41 (drop 8 file)) (front_size (drop 8 file) ∙ closed)))

-- ---- by what follows

uncut : (format : Format) (bodies : List (List ℕ)) (file : List ℕ)
    → (format ≡ Two → (nat_lt 1 (generation bodies) && (is_snapshot bodies && not (goes_on (behind_text Two bodies file)))) ≡ false) → is_cut format bodies file ≡ false
unfolding is_cut
uncut One bodies file whole = refl
uncut Two bodies file whole = whole refl

-- after a length 0 no record is shown, so none is left out
pub none_left : (format : Format) (bodies : List (List ℕ)) (file : List ℕ) → size_at (behind_text format bodies file) ≡ 0 → left_out format bodies file ≡ []
none_left format [] file closed = refl
none_left format (body ∷ bodies) file closed =
    let tail : List ℕ = behind_text format (body ∷ bodies) file in
    let prev : List ℕ = last (start format) (body ∷ bodies) in
    let some : nat_le 1 (size_at tail) ≡ false = ap (λ (n : ℕ). nat_le 1 n) closed in
    ap (λ (x : List ℕ). bodies_left format prev x) (written_empty format prev tail closed)
    ∙ ap (λ (shown : Bool). cond shown (bodies_from format (length tail) (digest_left format prev tail) (rest_at tail)) []) (and_left (nat_le 1 (size_at tail)) _ some)

pub not_short : (format : Format) (bodies : List (List ℕ)) (file : List ℕ) → size_at (behind_text format bodies file) ≡ 0 → stops_short format bodies file ≡ false
unfolding stops_short
not_short format bodies file closed = ap (λ (left : List (List ℕ)). has_own (generation bodies) (36 + size_at (written_behind format bodies file)) left) (none_left format bodies file closed)

-- nor does a log break off there whose snapshot isn't cut
behind_whole : (format : Format) (bodies : List (List ℕ)) (file : List ℕ) → size_at (behind_text format bodies file) ≡ 0 → is_cut format bodies file ≡ false → breaks_behind format bodies file ≡ false
behind_whole format bodies file closed uncut = ap (λ (cut : Bool). cut || stops_short format bodies file) uncut ∙ not_short format bodies file closed

pub not_broken : (format : Format) (bodies : List (List ℕ)) (file : List ℕ) → size_at (behind_text format bodies file) ≡ 0 → goes_on (behind_text format bodies file) ≡ true → breaks_off format bodies file ≡ false
unfolding breaks_off
not_broken format [] file closed on = none_shown format (take 41 (behind_text format [] file)) (front_size (behind_text format [] file) ∙ closed)
not_broken format (body ∷ bodies) file closed on =
    behind_whole format (body ∷ bodies) file closed
    (uncut format (body ∷ bodies) file (λ two. and_right (nat_lt 1 (number_in body)) _ (and_right (is_snapshot (body ∷ bodies)) _
    (ap (λ (b : Bool). not b) (subst (λ (f : Format). goes_on (behind_text f (body ∷ bodies) file) ≡ true) two on)))))

zeros_front : (n : ℕ) → take 4 (replicate {A = ℕ} (4 + n) 0) ≡ 0 ∷ 0 ∷ 0 ∷ 0 ∷ []
zeros_front n = let m : 4 + n ≡ suc (suc (suc (suc n))) = omega arith in ap (λ (k : ℕ). take 4 (replicate {A = ℕ} k 0)) m

pub zero_size : (rest : List ℕ) → size_at (0 ∷ 0 ∷ 0 ∷ 0 ∷ rest) ≡ 0
unfolding size_at
zero_size rest = refl

pub zeros_size : (n : ℕ) (tail : List ℕ) → take (4 + n) tail ≡ replicate (4 + n) 0 → size_at tail ≡ 0
unfolding size_at
zeros_size n tail is =
    let four : take 4 tail ≡ 0 ∷ 0 ∷ 0 ∷ 0 ∷ [] =
    sym (take-take 4 (4 + n) tail (omega arith)) ∙ ap (λ (l : List ℕ). take 4 l) is ∙ zeros_front n in
    ap (λ (l : List ℕ). from_be_bytes w32 l) four

zero_on : (tail : List ℕ) → 5 ≤ length tail → get_or tail 4 0 ≡ 0 → goes_on tail ≡ true
zero_on tail long is =
    let a : nat_le 4 (length tail) ≡ true = grind (arith, nat_tests) in
    let b : nat_eq (get_or tail 4 0) 0 ≡ true = eq-eqb (get_or tail 4 0) 0 is in
    and_from (nat_le 4 (length tail)) _ a (or_right (nat_le (length tail) 4) _ (or_left (nat_eq (get_or tail 4 0) 0) _ b))

zeros_at : (n i : ℕ) → i < n → get_or (replicate {A = ℕ} n 0) i 0 ≡ 0
zeros_at zero i lt = absurd (omega arith)
zeros_at (suc n) zero lt = refl
zeros_at (suc n) (suc i) lt = zeros_at n i (omega arith)

-- zeros, more than a length has
pub zeros_on : (n : ℕ) (tail : List ℕ) → 1 ≤ n → take (4 + n) tail ≡ replicate (4 + n) 0 → goes_on tail ≡ true
zeros_on zero tail some is = absurd (omega arith)
zeros_on (suc n) tail some is =
    zero_on tail (omega (arith, ap (λ (l : List ℕ). length l) is, length-take (4 + suc n) tail, length-replicate {A = ℕ} (4 + suc n) 0))
    (sym (get_or-take (4 + suc n) tail 4 0 (omega arith)) ∙ ap (λ (l : List ℕ). get_or l 4 0) is ∙ zeros_at (4 + suc n) 4 (omega arith))

-- a closing length, and one zero where more follows
pub closing_on : (rest : List ℕ) → (rest ≡ []) ⊎ (take 1 rest ≡ 0 ∷ []) → goes_on (0 ∷ 0 ∷ 0 ∷ 0 ∷ rest) ≡ true
closing_on [] cleared = refl
closing_on (b ∷ rest) (inl none) = absurd (cc none)
closing_on (b ∷ rest) (inr is) = zero_on (0 ∷ 0 ∷ 0 ∷ 0 ∷ b ∷ rest) (omega arith) (cc is)

pub behind_closing : (format : Format) (bodies : List (List ℕ)) (file rest : List ℕ) → file ≡ text format bodies ++ (0 ∷ 0 ∷ 0 ∷ 0 ∷ rest) → (rest ≡ []) ⊎ (take 1 rest ≡ 0 ∷ []) → breaks_off format bodies file ≡ false
behind_closing format bodies file rest is cleared =
    let behind : behind_text format bodies file ≡ 0 ∷ 0 ∷ 0 ∷ 0 ∷ rest =
    ap (λ (l : List ℕ). drop (length (text format bodies)) l) is ∙ drop_at (text format bodies) (0 ∷ 0 ∷ 0 ∷ 0 ∷ rest) (length (text format bodies)) refl in
    not_broken format bodies file (ap size_at behind ∙ zero_size rest) (ap goes_on behind ∙ closing_on rest cleared)

-- ---- by what was appended

appended_more : (bodies group : List (List ℕ)) → AllByRecursion (λ body. is_appended (get_or body 0 0) ≡ true) group → 1 ≤ length group → is_snapshot (bodies ++ group) ≡ false
appended_more [] [] ok some = absurd (omega arith)
appended_more [] (b ∷ group) ok some = ap (λ (t : Bool). not t && is_snapshot group) ok.0
appended_more (b ∷ bodies) group ok some = and_right (not (is_appended (get_or b 0 0))) _ (appended_more bodies group ok some)

-- a snapshot to which something was appended isn't cut, whatever follows
pub uncut_more : (format : Format) (bodies group : List (List ℕ)) (file : List ℕ) → AreAppended bodies group → 1 ≤ length group → is_cut format (bodies ++ group) file ≡ false
uncut_more format [] [] file kinds some = absurd (omega arith)
uncut_more format [] (b ∷ group) file (inl ok) some =
    uncut format (b ∷ group) file (λ two. and_right (nat_lt 1 (number_in b)) _ (and_left (is_snapshot (b ∷ group)) _ (appended_more [] (b ∷ group) ok some)))
uncut_more format [] (b ∷ group) file (inr first) some =
    let few : number_in b ≤ 1 = first.1 in
    let a : nat_lt 1 (number_in b) ≡ false = grind (arith, nat_tests) in
    uncut format (b ∷ group) file (λ two. and_left (nat_lt 1 (number_in b)) _ a)
uncut_more format (b ∷ bodies) group file (inl ok) some =
    uncut format (b ∷ (bodies ++ group)) file (λ two. and_right (nat_lt 1 (number_in b)) _ (and_left (is_snapshot (b ∷ (bodies ++ group))) _ (appended_more (b ∷ bodies) group ok some)))
uncut_more format (b ∷ bodies) group file (inr first) some = absurd (cc first.0)

-- and after a length 0 it doesn't break off
pub whole_more : (format : Format) (bodies group : List (List ℕ)) (file : List ℕ) → AreAppended bodies group → 1 ≤ length group → size_at (behind_text format (bodies ++ group) file) ≡ 0 → breaks_off format (bodies ++ group) file ≡ false
unfolding breaks_off
whole_more format [] [] file kinds some closed = absurd (omega arith)
whole_more format [] (b ∷ group) file kinds some closed = behind_whole format (b ∷ group) file closed (uncut_more format [] (b ∷ group) file kinds some)
whole_more format (b ∷ bodies) group file kinds some closed = behind_whole format (b ∷ (bodies ++ group)) file closed (uncut_more format (b ∷ bodies) group file kinds some)
