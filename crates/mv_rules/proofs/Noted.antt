-- The notes once those of one timestamp have changed, what is due of them, and that branches which only read leave nothing.
use Rattle.std.proofs.Common.{◌≡◌, ℕ, ◌<◌, ◌≤◌, Bool, true, false, ◌||◌, ◌==◌, List, [], ◌∷◌, ◌++◌, Option, Some, None, refl, sym, ap, ◌∙◌, subst, arith}
use Rattle.std.specs.Prelude.{◌-◌, bytes_eq, if◌then◌else◌}
use Rattle.std.specs.Option.{option_map_or}
use Rattle.std.specs.List.{AllByRecursion as Each}
use Rattle.std.specs.List.Sorted.{IsStrictlySortedBy}
use Rattle.std.specs.Map.{set_value}
use Rattle.std.specs.BTreeMap.{BTreeMap, get_by, insert_entry, is_at, IsOrdered}
use Rattle.std.specs.Ordering.{nat_cmp, is_eq}
use Rattle.std.specs.declared.cmp.Ordering.{Ordering}
use Rattle.std.specs.declared.cmp.Ordering.TheVariants.{Less, Equal, Greater}
use Rattle.std.proofs.lemmas.Bool.Decides.{nat_tests}
use Rattle.mv_chain.specs.declared.fate.Fate.{Fate}
use Rattle.mv_chain.specs.Chain.{fresh}
use Rattle.mv_chain.specs.Idle.{is_idle}
use Rattle.mv_rules.specs.declared.records.Records.{Records}
use Rattle.mv_rules.specs.declared.own.Own.{Own}
use Rattle.mv_rules.specs.declared.own.Notes.{Notes}
use Rattle.mv_rules.specs.Own.{own_in, decided_in, read_in}
use Rattle.mv_rules.specs.Records.{own_of}
use Rattle.mv_rules.specs.Tidy.{kept_of, names, is_due, due, not_due, tidied, tidied_if, Tidies, IsDrained, KeepsAll}
use Rattle.mv_rules.specs.Noted.{NotesAt, or_fresh, Reads, Settles, ReadAlone, IsStrange, AreDistinct}
use Rattle.mv_rules.proofs.Tests.{same_key}
use Rattle.mv_rules.proofs.ByTimestamp.{found, IsSorted, number_is, less, same, more, above, written_through}
use Rattle.mv_rules.proofs.Tidied.{names_both, fresh_shows}
use Rattle.mv_chain.specs.Chain.{marked_at}

abbrev own_at : ℕ → List (ℕ × Notes) → List Own
own_at t es = option_map_or (λ n. n.written.items) (found t es) []

abbrev decided_at : ℕ → List (ℕ × Notes) → List Own
decided_at t es = option_map_or (λ n. n.decided.items) (found t es) []

abbrev read_at : ℕ → List (ℕ × Notes) → List Own
read_at t es = option_map_or (λ n. n.read.items) (found t es) []

-- what is written over at a timestamp is what is noted there
pub noted_over : (ts : ℕ) (ws ds rs : List Own) (old new : BTreeMap ℕ Notes) (x n : Notes) → get_by (nat_cmp ts) old ≡ Some x → IsOrdered nat_cmp old → new.entries ≡ set_value (is_at (nat_cmp ts)) old.entries n
    → n.written.items ≡ ws → n.decided.items ≡ ds → n.read.items ≡ rs → NotesAt ts ws ds rs old new
noted_over ts ws ds rs old new x n here ordered over w d r = record {
  noted = n;
  written_is = w;
  decided_is = d;
  read_is = r;
  entries = over ∙ written_through ts old.entries x n ordered here;
  ordered = ordered;
}

-- the lists of a timestamp
pub lists_there : (ts : ℕ) (old : BTreeMap ℕ Notes) (x : Notes) → get_by (nat_cmp ts) old ≡ Some x → (own_in ts old ≡ x.written.items) × (decided_in ts old ≡ x.decided.items) × (read_in ts old ≡ x.read.items)
lists_there ts old x here = (ap (λ o. option_map_or (λ n. n.written.items) o []) here, ap (λ o. option_map_or (λ n. n.decided.items) o []) here, ap (λ o. option_map_or (λ n. n.read.items) o []) here)

pub lists_nowhere : (ts : ℕ) (old : BTreeMap ℕ Notes) → get_by (nat_cmp ts) old ≡ None → (own_in ts old ≡ []) × (decided_in ts old ≡ []) × (read_in ts old ≡ [])
lists_nowhere ts old none = (ap (λ o. option_map_or (λ n. n.written.items) o []) none, ap (λ o. option_map_or (λ n. n.decided.items) o []) none, ap (λ o. option_map_or (λ n. n.read.items) o []) none)

found_noted : (t ts : ℕ) (n : Notes) (es : List (ℕ × Notes)) → found t (insert_entry nat_cmp es ts n) ≡ (if t == ts then Some n else found t es)
found_noted t ts n [] = rw number_is refl
found_noted t ts n (e ∷ es) = at (nat_cmp ts e.0) refl (found_noted t ts n es)
  where
    at : (o : Ordering) → nat_cmp ts e.0 ≡ o → found t (insert_entry nat_cmp es ts n) ≡ (if t == ts then Some n else found t es) → found t (insert_entry nat_cmp (e ∷ es) ts n) ≡ (if t == ts then Some n else found t (e ∷ es))
    at Less o rest = rw (o, number_is) refl
    at Equal o rest = let is : ts ≡ e.0 = same ts e.0 o in rw (o, is) (simp number_is (grind arith))
    at Greater o rest = let up : e.0 < ts = more ts e.0 o in rw o (simp (number_is, rest) (apart (t == e.0) (t == ts) refl refl up))
      where
        apart : (x y : Bool) → (t == e.0) ≡ x → (t == ts) ≡ y → e.0 < ts → (if x then Some e.1 else if y then Some n else found t es) ≡ (if y then Some n else if x then Some e.1 else found t es)
        apart true true a b up = absurd (grind (arith, nat_tests, a, b, up))
        apart true false a b up = refl
        apart false y a b up = refl

-- what is noted as written, once one timestamp's notes have changed
pub own_noted : (t ts : ℕ) (ws ds rs : List Own) (old new : BTreeMap ℕ Notes) → NotesAt ts ws ds rs old new → own_in t new ≡ (if t == ts then ws else own_in t old)
own_noted t ts ws ds rs old new at =
    ap (own_at t) at.entries ∙ (ap (λ (o : Option Notes). option_map_or (λ n. n.written.items) o []) (found_noted t ts at.noted old.entries) ∙ told (t == ts))
  where
    told : (x : Bool) → option_map_or (λ (n : Notes). n.written.items) (if x then Some at.noted else found t old.entries) [] ≡ (if x then ws else own_in t old)
    told true = at.written_is
    told false = refl

-- each branch up to ts is decided
clear : (ts : ℕ) (es : List (ℕ × Notes)) → IsSorted es → ((t : ℕ) → t ≤ ts → own_at t es ≡ []) → Each (λ e. e.0 ≤ ts → e.1.written.items ≡ []) es
unfolding IsStrictlySortedBy
clear ts [] s h = tt
clear ts (e ∷ es) s h = (λ le. rw hit at (h e.0 le), clear ts es s.1 (λ t le. later t (is_eq (nat_cmp t e.0)) refl (h t le)))
  where
    hit : is_eq (nat_cmp e.0 e.0) ≡ true
    hit = number_is e.0 e.0 ∙ grind (arith, nat_tests)

    later : (t : ℕ) (x : Bool) → is_eq (nat_cmp t e.0) ≡ x → own_at t (e ∷ es) ≡ [] → own_at t es ≡ []
    later t true f none =
        let is : t ≤ e.0 = grind (arith, nat_tests, f, number_is t e.0) in
        ap (λ (o : Option Notes). option_map_or (λ n. n.written.items) o []) (above e.0 t es is s.0)
    later t false f none = rw f at none

-- one more read is due
module _ (low ts : ℕ) (n : Notes) (own : Own) (le : ts ≤ low) (idle : n.written.items ≡ []) where
  passed : is_due low (ts, n) ≡ true
  passed = rw idle (grind (arith, nat_tests, le))

  first : (ds rs : List Own) (q : List ℕ) (rest : List Own) → n.decided.items ≡ ds → n.read.items ≡ rs ++ own ∷ []
      → names q (n.decided.items ++ n.read.items ++ rest) ≡ (bytes_eq q own.key || ((names q ds || names q rs) || names q rest))
  first ds rs q rest d r =
      ap (λ ys. names q (ys ++ n.read.items ++ rest)) d ∙ (ap (λ ys. names q (ds ++ ys ++ rest)) r
      ∙ (names_both q (ds ++ (rs ++ own ∷ [])) rest ∙ (ap (λ y. y || names q rest) (names_both q ds (rs ++ own ∷ []) ∙ ap (λ y. names q ds || y) (names_both q rs (own ∷ [])))
      ∙ turned (names q ds) (names q rs) (bytes_eq q own.key) (names q rest))))
    where
      turned : (d r k x : Bool) → ((d || (r || (k || false))) || x) ≡ (k || ((d || r) || x))
      turned true r true x = refl
      turned true r false x = refl
      turned false true true x = refl
      turned false true false x = refl
      turned false false true x = refl
      turned false false false x = refl

  both : (e : ℕ × Notes) (q : List ℕ) (rest : List Own) → names q (e.1.decided.items ++ e.1.read.items ++ rest) ≡ ((names q e.1.decided.items || names q e.1.read.items) || names q rest)
  both e q rest = names_both q (e.1.decided.items ++ e.1.read.items) rest ∙ ap (λ y. y || names q rest) (names_both q e.1.decided.items e.1.read.items)

  behind : (d k x : Bool) → (d || (k || x)) ≡ (k || (d || x))
  behind true true x = refl
  behind true false x = refl
  behind false k x = refl

  pub due_noted : (es : List (ℕ × Notes)) → IsSorted es → Each (λ e. e.0 ≤ ts → e.1.written.items ≡ []) es → n.decided.items ≡ decided_at ts es → n.read.items ≡ read_at ts es ++ own ∷ []
      → ((q : List ℕ) → names q (due low (insert_entry nat_cmp es ts n)) ≡ (bytes_eq q own.key || names q (due low es))) × (not_due low (insert_entry nat_cmp es ts n) ≡ not_due low es)
  unfolding IsStrictlySortedBy
  due_noted [] s c = λ d r. (λ q. rw passed (first [] [] q [] d r), rw passed refl)
  due_noted (e ∷ es) s c = at (nat_cmp ts e.0) refl (due_noted es s.1 c.1)
    where
      over : e.0 ≤ ts → is_due low e ≡ true
      over up = rw (c.0 up) (grind (arith, nat_tests, le, up))

      at : (o : Ordering) → nat_cmp ts e.0 ≡ o
          → (n.decided.items ≡ decided_at ts es → n.read.items ≡ read_at ts es ++ own ∷ [] → ((q : List ℕ) → names q (due low (insert_entry nat_cmp es ts n)) ≡ (bytes_eq q own.key || names q (due low es))) × (not_due low (insert_entry nat_cmp es ts n) ≡ not_due low es))
          → n.decided.items ≡ decided_at ts (e ∷ es) → n.read.items ≡ read_at ts (e ∷ es) ++ own ∷ []
          → ((q : List ℕ) → names q (due low (insert_entry nat_cmp (e ∷ es) ts n)) ≡ (bytes_eq q own.key || names q (due low (e ∷ es)))) × (not_due low (insert_entry nat_cmp (e ∷ es) ts n) ≡ not_due low (e ∷ es))
      at Less o rest d r =
          let up : ts < e.0 = less ts e.0 o in
          let off : is_eq (nat_cmp ts e.0) ≡ false = ap is_eq o in
          let none : found ts es ≡ None = above e.0 ts es (omega arith) s.0 in
          let nowhere : found ts (e ∷ es) ≡ None = rw off none in
          let d2 : n.decided.items ≡ [] = rw nowhere at d in
          let r2 : n.read.items ≡ own ∷ [] = rw nowhere at r in
          (λ q. rw (o, passed) (first [] [] q (due low (e ∷ es)) d2 r2), rw (o, passed) refl)
      at Equal o rest d r =
          let is : ts ≡ e.0 = same ts e.0 o in
          let on : is_eq (nat_cmp ts e.0) ≡ true = ap is_eq o in
          let here : found ts (e ∷ es) ≡ Some e.1 = rw on refl in
          let d2 : n.decided.items ≡ e.1.decided.items = rw here at d in
          let r2 : n.read.items ≡ e.1.read.items ++ own ∷ [] = rw here at r in
          let due_too : is_due low (e.0, n) ≡ true = subst (λ (t : ℕ). is_due low (t, n) ≡ true) is passed in
          let was : is_due low e ≡ true = over (omega arith) in
          (λ q. rw (o, due_too, was) (first e.1.decided.items e.1.read.items q (due low es) d2 r2 ∙ ap (λ y. bytes_eq q own.key || y) (sym (both e q (due low es)))), rw (o, due_too, was) refl)
      at Greater o rest d r =
          let up : e.0 < ts = more ts e.0 o in
          let off : is_eq (nat_cmp ts e.0) ≡ false = ap is_eq o in
          let was : is_due low e ≡ true = over (omega arith) in
          let further : found ts (e ∷ es) ≡ found ts es = rw off refl in
          let later = rest (rw further at d) (rw further at r) in (
            λ q. rw (o, was) (both e q (due low (insert_entry nat_cmp es ts n)) ∙ (ap (λ y. (names q e.1.decided.items || names q e.1.read.items) || y) (later.0 q)
                ∙ (behind (names q e.1.decided.items || names q e.1.read.items) (bytes_eq q own.key) (names q (due low es)) ∙ ap (λ y. bytes_eq q own.key || y) (sym (both e q (due low es)))))),
            rw (o, was) later.1,
          )

-- a key that nobody wrote, and whose only read the low water has passed, is given back
given_back : (low ts : ℕ) → ts ≤ low → tidied low (Some (marked_at ts fresh)) ≡ None
given_back low ts le = rw (fresh_shows ts) (grind (arith, nat_tests, le))

nothing_tidied : (low : ℕ) (x : Bool) → tidied_if low x None ≡ None
nothing_tidied low true = refl
nothing_tidied low false = refl

unread_idle : (m : ℕ) → is_idle m fresh ≡ true
unread_idle m = grind (arith, nat_tests)

module _ (low ts : ℕ) (key : List ℕ) (r read : Records) (strange : IsStrange low r (ts, key)) (reads : Reads ts key r read) where
  noted : NotesAt ts (own_in ts r.notes) (decided_in ts r.notes) (read_in ts r.notes ++ (record { key = key; index = 0 }) ∷ []) r.notes read.notes
  noted = reads.notes.unknown (ap (λ o. is_idle (ts - 1) (or_fresh o)) strange.unknown ∙ unread_idle (ts - 1))

  own_stays : (t : ℕ) → own_of t read ≡ own_of t r
  own_stays t = own_noted t ts (own_in ts r.notes) (decided_in ts r.notes) (read_in ts r.notes ++ (record { key = key; index = 0 }) ∷ []) r.notes read.notes noted ∙ told (t == ts) refl
    where
      told : (x : Bool) → (t == ts) ≡ x → (if x then own_in ts r.notes else own_in t r.notes) ≡ own_in t r.notes
      told true e = let is : t ≡ ts = grind (arith, nat_tests, e) in ap (λ (u : ℕ). own_in u r.notes) (sym is)
      told false e = refl

  pub wrote_nothing : own_of ts read ≡ []
  wrote_nothing = own_stays ts ∙ strange.decided ts (omega arith)

  pub still_strange : (e : ℕ × List ℕ) → bytes_eq e.1 key ≡ false → IsStrange low r e → IsStrange low read e
  still_strange e apart s = record {
    unknown = let to : kept_of e.1 read ≡ kept_of e.1 r = rw apart at (reads.kept e.1) in to ∙ s.unknown;
    passed = s.passed;
    decided = λ t le. own_stays t ∙ s.decided t le;
  }

  pub one_read : (left : Records) → Tidies low read left → Tidies low r left
  one_read left tidies = record {
    kept = λ q. tidies.kept q ∙ (ap (λ x. tidied_if low x (kept_of q read)) (is_named q) ∙ at q (bytes_eq q key) refl);
    notes = tidies.notes ∙ (ap (not_due low) noted.entries ∙ more_due.1);
  }
    where
      more_due : ((q : List ℕ) → names q (due low (insert_entry nat_cmp r.notes.entries ts noted.noted)) ≡ (bytes_eq q key || names q (due low r.notes.entries))) × (not_due low (insert_entry nat_cmp r.notes.entries ts noted.noted) ≡ not_due low r.notes.entries)
      more_due = due_noted low ts noted.noted (record { key = key; index = 0 }) strange.passed (noted.written_is ∙ strange.decided ts (omega arith)) r.notes.entries noted.ordered (clear ts r.notes.entries noted.ordered strange.decided) noted.decided_is noted.read_is

      is_named : (q : List ℕ) → names q (due low read.notes.entries) ≡ (bytes_eq q key || names q (due low r.notes.entries))
      is_named q = ap (λ es. names q (due low es)) noted.entries ∙ more_due.0 q

      at : (q : List ℕ) (x : Bool) → bytes_eq q key ≡ x → tidied_if low (x || names q (due low r.notes.entries)) (kept_of q read) ≡ tidied_if low (names q (due low r.notes.entries)) (kept_of q r)
      at q true e =
          let is : q ≡ key = same_key q key e in
          let to : kept_of q read ≡ Some (marked_at ts (or_fresh (kept_of key r))) = rw e at (reads.kept q) in
          let now : kept_of q read ≡ Some (marked_at ts fresh) = to ∙ ap (λ o. Some (marked_at ts (or_fresh o))) strange.unknown in
          let was : kept_of q r ≡ None = ap (λ k. kept_of k r) is ∙ strange.unknown in
          ap (tidied low) now ∙ (given_back low ts strange.passed ∙ sym (ap (tidied_if low (names q (due low r.notes.entries))) was ∙ nothing_tidied low (names q (due low r.notes.entries))))
      at q false e = let to : kept_of q read ≡ kept_of q r = rw e at (reads.kept q) in ap (tidied_if low (names q (due low r.notes.entries))) to

-- a decision of a branch that wrote nothing
module _ (low ts : ℕ) (fate : Fate) (r left : Records) (none : own_of ts r ≡ []) (settles : Settles ts fate r left) where
  kept_alike : KeepsAll r left
  kept_alike q = settles.kept q ∙ rw none refl

  pub one_decided : (end : Records) → Tidies low left end → Tidies low r end
  one_decided end tidies = record {
    kept = λ q. tidies.kept q ∙ (ap (λ (n : BTreeMap ℕ Notes). tidied_if low (names q (due low n.entries)) (kept_of q left)) (settles.none none) ∙ ap (tidied_if low (names q (due low r.notes.entries))) (kept_alike q));
    notes = tidies.notes ∙ ap (λ (n : BTreeMap ℕ Notes). not_due low n.entries) (settles.none none);
  }

  pub strange_alike : (e : ℕ × List ℕ) → IsStrange low r e → IsStrange low left e
  strange_alike e s = record {
    unknown = kept_alike e.1 ∙ s.unknown;
    passed = s.passed;
    decided = λ t le. ap (own_in t) (settles.none none) ∙ s.decided t le;
  }

pub leave_nothing : (reads : List (ℕ × List ℕ)) (low : ℕ) (r read left : Records) → ReadAlone reads r read → Each (IsStrange low r) reads → AreDistinct reads → Tidies low read left → Tidies low r left
leave_nothing [] low r read left alone strange distinct tidies = subst (λ x. Tidies low x left) (sym alone) tidies
leave_nothing (e ∷ es) low r read left alone strange distinct tidies =
    let one = alone.0 in
    let two = alone.1 in
    let fate = alone.2 in
    let reads = alone.3 in
    let settles = alone.4 in
    let none : own_of e.0 one ≡ [] = wrote_nothing low e.0 e.1 r one strange.0 reads in
    one_read low e.0 e.1 r one strange.0 reads left (one_decided low e.0 fate one two none settles left
    (leave_nothing es low two read left alone.5 (moved es strange.1 distinct.0) distinct.1 tidies))
  where
    moved : (ds : List (ℕ × List ℕ)) → Each (IsStrange low r) ds → Each (λ d. bytes_eq d.1 e.1 ≡ false) ds → Each (IsStrange low alone.1) ds
    moved [] s d = tt
    moved (x ∷ ds) s d =
        (strange_alike low e.0 alone.2 alone.0 alone.1 (wrote_nothing low e.0 e.1 r alone.0 strange.0 alone.3) alone.4 x (still_strange low e.0 e.1 r alone.0 strange.0 alone.3 x d.0 s.0), moved ds s.1 d.1)

pub leave_all : (reads : List (ℕ × List ℕ)) (low : ℕ) (r read left : Records) → ReadAlone reads r read → Each (IsStrange low r) reads → AreDistinct reads → Tidies low read left → IsDrained low r → KeepsAll r left
leave_all reads low r read left alone strange distinct tidies drained q =
    (leave_nothing reads low r read left alone strange distinct tidies).kept q ∙ ap (λ os. tidied_if low (names q os) (kept_of q r)) drained
