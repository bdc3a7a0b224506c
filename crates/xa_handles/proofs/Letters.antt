-- Letters of a group.
use Rattle.std.proofs.Common.{◌≡◌, ◌≢◌, ◌∙◌, ℕ, ◌+◌, ◌<◌, suc, zero, List, [], ◌∷◌, ◌++◌, length, set, take, get_or, Option, Some, None, refl, sym, ap, subst, arith, append_assoc, append-nil, length-append}
use Rattle.std.specs.Prelude.{slice_get, sum_by}
use Rattle.std.specs.List.{AllByRecursion}
use Rattle.std.proofs.lemmas.List.{map-append}
use Rattle.std.proofs.lemmas.List.Sums.{sum_by-append, sum_by-cons}
use Rattle.xa_frame.specs.Limits.{IsRequest}
use Rattle.xa_frame.specs.declared.reply.Reply.{Reply}
use Rattle.xa_handles.specs.Mail.{AreLetters, IsCallOf, Mailed, ask_weight, put_at, reply_weight, slot_weight, told_weight}
use Rattle.xa_handles.specs.Believed.Standing.{shown}
use Rattle.xa_handles.specs.Telling.{AnswersAll, AnswersAt, IsOpen, shown_reply}
use Rattle.xa_manager.specs.Once.{AreOnce}
use Rattle.xa_manager.specs.declared.together.Asked.{Asked}
use Rattle.xa_history.specs.Believed.Together.{event_at}
use Rattle.xa_sequencer.specs.Believed.Together.{ArePlaced}
use Rattle.xa_tokens.specs.declared.receipt.Receipt.{Receipt}
use Rattle.xa_tokens.specs.Believed.Receipts.{receipt_of}

-- ---- which calls they are

-- one letter more
pub one_more : (letters : List (Option Mailed)) (calls : List Asked) (l : Option Mailed) (c : Asked) → AreLetters letters calls → IsCallOf l c
    → AreLetters (letters ++ l ∷ []) (calls ++ c ∷ [])
one_more [] [] l c are is = (is, tt)
one_more [] (d ∷ ds) l c are is = absurd are
one_more (k ∷ ks) [] l c are is = absurd are
one_more (k ∷ ks) (d ∷ ds) l c are is = (are.0, one_more ks ds l c are.1 is)

-- the letter of a reply's call is there
pub open_at : (calls : List Asked) (letters : List (Option Mailed)) (r : ℕ × Reply) → AreLetters letters calls → r.0 < length calls → IsOpen calls letters r
open_at calls letters r are lt = let it = found calls letters r.0 are lt in
    record { letter = it.0; there = it.1; unanswered = it.2; event = it.3 }
  where
    found : (calls : List Asked) (letters : List (Option Mailed)) (n : ℕ) → AreLetters letters calls → n < length calls
        → (l : Mailed) × (slice_get letters n ≡ Some (Some l)) × (l.reply ≡ None) × (l.ask.event ≡ event_at calls n)
    found [] letters n are lt = absurd (omega (arith, lt))
    found (c ∷ cs) [] n are lt = absurd are
    found (c ∷ cs) (None ∷ ls) n are lt = absurd are.0
    found (c ∷ cs) (Some l ∷ ls) zero are lt = (l, refl, are.0.0, are.0.1)
    found (c ∷ cs) (Some l ∷ ls) (suc n) are lt = found cs ls n are.1 (omega (arith, lt))

pub all_open : (calls : List Asked) (letters : List (Option Mailed)) (rs : List (ℕ × Reply)) → AreLetters letters calls → AllByRecursion (λ r. r.0 < length calls) rs
    → AllByRecursion (IsOpen calls letters) rs
all_open calls letters [] are within = tt
all_open calls letters (r ∷ rs) are within = (open_at calls letters r are within.0, all_open calls letters rs are within.1)

-- ---- one of them is answered

set_get : {A : Type 0} (xs : List A) (k j : ℕ) (x : A) → j ≢ k → slice_get (set xs k x) j ≡ slice_get xs j
set_get [] k j x apart = refl
set_get (y ∷ ys) zero zero x apart = absurd (apart refl)
set_get (y ∷ ys) zero (suc j) x apart = refl
set_get (y ∷ ys) (suc k) zero x apart = refl
set_get (y ∷ ys) (suc k) (suc j) x apart = set_get ys k j x (λ e. apart (ap suc e))

still_open : (calls : List Asked) (letters letters' : List (Option Mailed)) (k : ℕ) (l : Option Mailed) (rs : List (ℕ × Reply)) → letters' ≡ set letters k l
    → AllByRecursion (λ q. q.0 ≢ k) rs → AllByRecursion (IsOpen calls letters) rs → AllByRecursion (IsOpen calls letters') rs
still_open calls letters letters' k l [] are apart opened = tt
still_open calls letters letters' k l (r ∷ rs) are apart opened = (
  record {
    letter = opened.0.letter;
    there = ap (λ (ls : List (Option Mailed)). slice_get ls r.0) are ∙ set_get letters k r.0 l apart.0 ∙ opened.0.there;
    unanswered = opened.0.unanswered;
    event = opened.0.event;
  },
  still_open calls letters letters' k l rs are apart.1 opened.1,
)

-- what the letters weigh with another one in some place
set_weight : (weigh : Mailed → ℕ) (letters : List (Option Mailed)) (k : ℕ) (l l' : Mailed) → slice_get letters k ≡ Some (Some l)
    → sum_by (slot_weight weigh) (set letters k (Some l')) + weigh l ≡ sum_by (slot_weight weigh) letters + weigh l'
set_weight weigh [] k l l' there = absurd (cc there)
set_weight weigh (x ∷ xs) zero l l' there =
    let is : x ≡ Some l = cc there in
    let same : slot_weight weigh x ≡ weigh l = ap (slot_weight weigh) is in
    omega (arith, same, sum_by-cons (slot_weight weigh) x xs, sum_by-cons (slot_weight weigh) (Some l') xs)
set_weight weigh (x ∷ xs) (suc k) l l' there =
    omega (arith, set_weight weigh xs k l l' there, sum_by-cons (slot_weight weigh) x xs, sum_by-cons (slot_weight weigh) x (set xs k (Some l')))

-- ---- while they are answered

-- what was done so far, and what holds of the replies that are left
pub record Answering (calls : List Asked) (all rest : List (ℕ × Reply)) (history : List Receipt) (letters : List (Option Mailed)) (history' : List Receipt)
    (letters' : List (Option Mailed)) : Type 0 where
  pub before : List (ℕ × Reply)
  pub all_are : before ++ rest ≡ all
  pub so_far : AnswersAll calls before history letters history' letters'
  pub once : AreOnce rest
  pub left : AllByRecursion (IsOpen calls letters') rest
  pub places : ArePlaced (length history') rest

pub begins : (calls : List Asked) (replies : List (ℕ × Reply)) (history : List Receipt) (letters : List (Option Mailed)) → AreOnce replies
    → AllByRecursion (IsOpen calls letters) replies → ArePlaced (length history) replies → Answering calls replies replies history letters history letters
begins calls replies history letters once opened places = record {
  before = [];
  all_are = refl;
  so_far = record { more = []; history_is = sym (append-nil history); are = refl; told = λ weigh. omega arith; asks = λ weigh. refl };
  once = once;
  left = opened;
  places = places;
}

-- one more
more_told : (calls : List Asked) (before : List (ℕ × Reply)) (r : ℕ × Reply) (history : List Receipt) (letters : List (Option Mailed)) (h : List Receipt) (ls : List (Option Mailed))
    (history' : List Receipt) (letters' : List (Option Mailed)) → AnswersAll calls before history letters h ls → AnswersAt calls r h ls history' letters'
    → AnswersAll calls (before ++ r ∷ []) history letters history' letters'
more_told calls before r history letters h ls history' letters' far at =
    let e : Receipt = receipt_of at.one.letter.ask r.1 in
    let l : Mailed = at.one.letter in
    let l' : Mailed = record l { reply = Some r.1 } in
    let shown_is : shown e ≡ shown_reply calls r = λ i. record { place = r.1.place; event = at.one.event i; reply = r.1 } in
    record {
      more = far.more ++ e ∷ [];
      history_is = at.history_is ∙ ap (λ (xs : List Receipt). xs ++ e ∷ []) far.history_is ∙ append_assoc history far.more (e ∷ []);
      are = map-append shown far.more (e ∷ []) ∙ (λ i. far.are i ++ shown_is i ∷ []) ∙ sym (map-append (shown_reply calls) before (r ∷ []));
      told = λ weigh.
          let before_told : told_weight weigh l ≡ 0 = ap (λ (o : Option Reply). reply_weight weigh l.ask o) at.one.unanswered in
          let now = ap (λ (xs : List (Option Mailed)). sum_by (slot_weight (told_weight weigh)) xs) at.letters_are in
          omega (arith, before_told, now, set_weight (told_weight weigh) ls r.0 l l' at.one.there, far.told weigh, sum_one weigh far.more e);
      asks = λ weigh.
          let now = ap (λ (xs : List (Option Mailed)). sum_by (slot_weight (ask_weight weigh)) xs) at.letters_are in
          omega (arith, now, set_weight (ask_weight weigh) ls r.0 l l' at.one.there, far.asks weigh);
    }
  where
    sum_one : (weigh : Receipt → ℕ) (xs : List Receipt) (x : Receipt) → sum_by weigh (xs ++ x ∷ []) ≡ sum_by weigh xs + weigh x
    sum_one weigh [] x = omega (arith, sum_by-cons weigh x [])
    sum_one weigh (y ∷ ys) x = omega (arith, sum_one weigh ys x, sum_by-cons weigh y ys, sum_by-cons weigh y (ys ++ x ∷ []))

pub goes_on : (calls : List Asked) (all rest : List (ℕ × Reply)) (r : ℕ × Reply) (left : List (ℕ × Reply)) (history : List Receipt) (letters : List (Option Mailed)) (h : List Receipt) (ls : List (Option Mailed))
    (history' : List Receipt) (letters' : List (Option Mailed)) → Answering calls all rest history letters h ls → rest ≡ r ∷ left → AnswersAt calls r h ls history' letters'
    → Answering calls all left history letters history' letters'
goes_on calls all rest r left history letters h ls history' letters' was first at =
    let a = subst (λ (rs : List (ℕ × Reply)). Answering calls all rs history letters h ls) first was in
    let e : Receipt = receipt_of at.one.letter.ask r.1 in
    let longer : length h + 1 ≡ length history' = omega (arith, ap (λ (xs : List Receipt). length xs) at.history_is, length-append h (e ∷ [])) in
    record {
      before = a.before ++ r ∷ [];
      all_are = append_assoc a.before (r ∷ []) left ∙ a.all_are;
      so_far = more_told calls a.before r history letters h ls history' letters' a.so_far at;
      once = a.once.1;
      left = still_open calls ls letters' r.0 _ left at.letters_are a.once.0 a.left.1;
      places = subst (λ (n : ℕ). ArePlaced n left) longer a.places.1;
    }

pub ends : (calls : List Asked) (all rest : List (ℕ × Reply)) (history : List Receipt) (letters : List (Option Mailed)) (history' : List Receipt) (letters' : List (Option Mailed))
    → Answering calls all rest history letters history' letters' → rest ≡ [] → AnswersAll calls all history letters history' letters'
ends calls all rest history letters history' letters' was none =
    subst (λ (rs : List (ℕ × Reply)). AnswersAll calls rs history letters history' letters')
    (sym (append-nil was.before) ∙ ap (λ (xs : List (ℕ × Reply)). was.before ++ xs) (sym none) ∙ was.all_are) was.so_far

-- ---- places of a list

pub got : {A : Type 0} (xs : List A) (n : ℕ) (x d : A) → slice_get xs n ≡ Some x → get_or xs n d ≡ x
got [] n x d is = absurd (cc is)
got (y ∷ ys) zero x d is = cc is
got (y ∷ ys) (suc n) x d is = got ys n x d is

pub within : {A : Type 0} (xs : List A) (n : ℕ) (x : A) → slice_get xs n ≡ Some x → n < length xs
within [] n x is = absurd (cc is)
within (y ∷ ys) zero x is = omega arith
within (y ∷ ys) (suc n) x is = omega (arith, within ys n x is)

pub take_more : {A : Type 0} (xs : List A) (i : ℕ) (d : A) → i < length xs → take (i + 1) xs ≡ take i xs ++ get_or xs i d ∷ []
take_more [] i d lt = absurd (omega (arith, lt))
take_more (x ∷ xs) zero d lt = refl
take_more {A} (x ∷ xs) (suc i) d lt =
    let next : suc i + 1 ≡ suc (i + 1) = omega arith in
    ap (λ n. take n (x ∷ xs)) next ∙ ap (λ (ys : List A). x ∷ ys) (take_more xs i d (omega (arith, lt)))

-- another one in the place of one
pub answered_at : (calls : List Asked) (r : ℕ × Reply) (history : List Receipt) (letters : List (Option Mailed)) (history' : List Receipt) (slot : Option Mailed) (l l' : Mailed)
    → IsOpen calls letters r → slot ≡ get_or letters r.0 slot → slot ≡ Some l → l' ≡ record l { reply = Some r.1 } → history' ≡ history ++ receipt_of l.ask r.1 ∷ []
    → AnswersAt calls r history letters history' (set letters r.0 (Some l'))
answered_at calls r history letters history' slot l l' opened at is answered noted =
    let there : Some opened.letter ≡ Some l = sym (at ∙ got letters r.0 (Some opened.letter) slot opened.there) ∙ is in
    let same : l ≡ opened.letter = cc there in
    record {
      one = opened;
      history_is = noted ∙ ap (λ (x : Mailed). history ++ receipt_of x.ask r.1 ∷ []) same;
      letters_are = ap (λ (x : Mailed). set letters r.0 (Some x)) (answered ∙ ap (λ (x : Mailed). record x { reply = Some r.1 }) same);
    }

-- ---- trays

-- a letter more
pub put_weight : (weigh : Mailed → ℕ) (trays : List (List Mailed)) (k : ℕ) (l : Mailed) → k < length trays
    → sum_by (λ t. sum_by weigh t) (put_at trays k l) ≡ sum_by (λ t. sum_by weigh t) trays + weigh l
put_weight weigh [] k l lt = absurd (omega (arith, lt))
put_weight weigh (t ∷ ts) zero l lt =
    omega (arith, sum_by-cons (λ t. sum_by weigh t) t ts, sum_by-cons (λ t. sum_by weigh t) (t ++ l ∷ []) ts, sum_by-append weigh t (l ∷ []), sum_by-cons weigh l [])
put_weight weigh (t ∷ ts) (suc k) l lt =
    omega (arith, sum_by-cons (λ t. sum_by weigh t) t ts, sum_by-cons (λ t. sum_by weigh t) t (put_at ts k l), put_weight weigh ts k l (omega (arith, lt)))

-- a letter on its way from the letters to the trays
pub moved : (weigh : Mailed → ℕ) (letters letters' : List (Option Mailed)) (trays trays' : List (List Mailed)) (slot : Option Mailed) (l : Mailed) (total : ℕ)
    → sum_by (slot_weight weigh) letters + sum_by (λ t. sum_by weigh t) trays ≡ total → letters ≡ letters' ++ slot ∷ [] → slot ≡ Some l
    → (l.tray < length trays) × (trays' ≡ put_at trays l.tray l)
    → sum_by (slot_weight weigh) letters' + sum_by (λ t. sum_by weigh t) trays' ≡ total
moved weigh letters letters' trays trays' slot l total was are is (lt, put) =
    omega (
      arith,
      was,
      ap (λ (xs : List (Option Mailed)). sum_by (slot_weight weigh) xs) are,
      sum_by-append (slot_weight weigh) letters' (slot ∷ []),
      sum_by-cons (slot_weight weigh) slot [],
      ap (slot_weight weigh) is,
      ap (λ (xs : List (List Mailed)). sum_by (λ t. sum_by weigh t) xs) put,
      put_weight weigh trays l.tray l lt,
    )

-- none was there
pub skipped : (weigh : Mailed → ℕ) (letters letters' : List (Option Mailed)) (slot : Option Mailed) (rest total : ℕ)
    → sum_by (slot_weight weigh) letters + rest ≡ total → letters ≡ letters' ++ slot ∷ [] → slot ≡ None → sum_by (slot_weight weigh) letters' + rest ≡ total
skipped weigh letters letters' slot rest total was are is =
    omega (
      arith,
      was,
      ap (λ (xs : List (Option Mailed)). sum_by (slot_weight weigh) xs) are,
      sum_by-append (slot_weight weigh) letters' (slot ∷ []),
      sum_by-cons (slot_weight weigh) slot [],
      ap (slot_weight weigh) is,
    )

pub all_more : (calls : List Asked) (c : Asked) → AllByRecursion (λ x. IsRequest x.request) calls → IsRequest c.request → AllByRecursion (λ x. IsRequest x.request) (calls ++ c ∷ [])
all_more [] c all one = (one, tt)
all_more (d ∷ ds) c all one = (all.0, all_more ds c all.1 one)
