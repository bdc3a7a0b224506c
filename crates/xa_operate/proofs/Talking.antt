-- The lines of a script are read as what they ask.
use Rattle.std.proofs.Common.{◌≡◌, ◌==◌, ◌<◌, ◌≤◌, ◌-◌, ℕ, suc, not, ℤ, pos, negsuc, ◌/◌, ◌%◌, ◌^◌, Bool, true, false, List, [], ◌∷◌, ◌++◌, length, get_or, All, Option, refl, ap, ◌∙◌, arith, codes, FitsSigned, w32}
use Rattle.std.specs.Prelude.{◌&&◌, decimal, nat_le, nat_lt}
use Rattle.std.specs.Fmt.{signed_decimal}
use Rattle.std.specs.Io.BufRead.{strip_last}
use Rattle.std.specs.List.{list_all, onto_first}
use Rattle.std.proofs.lemmas.Bool.{ne_eqb}
use Rattle.std.proofs.lemmas.Bool.Decides.{nat_tests}
use Rattle.std.proofs.lemmas.Fmt.{decimal_is_IsNumeral}
use Rattle.std.proofs.lemmas.List.Elements.{All-append, All-cons, All-from_get_or, All-head, All-nil, All-tail, All-weaker}
use Rattle.std.proofs.lemmas.Str.Parse.{digit_at}
use Rattle.xa_codes.specs.declared.direction.Direction.TheVariants as direction
use Rattle.xa_script.specs.Requests.{ReadsTexts, is_graphic, is_name}
use Rattle.xa_script.specs.Words.{next_place, words, words_from}
use Rattle.xa_script.specs.declared.words.Place.{Place}
use Rattle.xa_script.specs.declared.words.Place.TheVariants.{Front}
use Rattle.xa_xid.specs.Spelling.{hex, hex_digit, text_of}
use Rattle.xa_xid.specs.Triple.{IsWithinLimits, Triple}
use Rattle.xa_codes.specs.declared.flags.TheConstants.{TMNOFLAGS}
use Rattle.xa_frame.specs.declared.request.Request.TheVariants.{Open}
use Rattle.xa_script.specs.Lines.{line_of, said_of}
use Rattle.xa_operate.specs.Agendas.{question_of}
use Rattle.xa_operate.specs.Askings.{called}
use Rattle.xa_operate.specs.Scripts.{NamesWell, TalkReads, call_text, open_line, said}
use Rattle.xa_operate.proofs.Decimals.{number_read}
use Rattle.xa_operate.specs.declared.task.Task.{Task}
use Rattle.xa_operate.specs.declared.task.Task.TheVariants.{Status, Metrics, AtWork, Branches, Branch, Abandoned, Recover, RollbackMarked, Commit, Rollback, Forget, Decide, Doom, Disconnect, Trim, Restart}

-- no blank, and no end of a line
abbrev IsInk : ℕ → Type 0
IsInk b = 33 ≤ b

ink : (b : ℕ) → 33 ≤ b → IsInk b
ink b above = above

decimal_ink : (n : ℕ) → n < 2 ^ 64 → All IsInk (decimal n)
decimal_ink n small =
    let digits = decimal_is_IsNumeral n small in
    All-from_get_or IsInk (decimal n) 0
    (λ i lt. let range = digit_at (decimal n) i digits.0.1 lt in ink (get_or (decimal n) i 0) (omega (arith, range.0)))

signed_ink : (z : ℤ) → FitsSigned w32 z → All IsInk (signed_decimal z)
signed_ink (pos n) h = decimal_ink n (omega (arith, h.sfits))
signed_ink (negsuc n) h = All-cons IsInk 45 (decimal (suc n)) (ink 45 (omega arith)) (decimal_ink (suc n) (omega (arith, h.sfits)))

digit_above : (n : ℕ) → 33 ≤ hex_digit n
digit_above n = grind (arith, nat_tests)

digit_ink : (n : ℕ) → IsInk (hex_digit n)
digit_ink n = ink (hex_digit n) (digit_above n)

hex_ink : (bytes : List ℕ) → All IsInk (hex bytes)
hex_ink [] = All-nil IsInk
hex_ink (b ∷ bytes) =
    All-cons IsInk (hex_digit (b / 16)) (hex_digit (b % 16) ∷ hex bytes) (digit_ink (b / 16))
    (All-cons IsInk (hex_digit (b % 16)) (hex bytes) (digit_ink (b % 16)) (hex_ink bytes))

xid_ink : (x : Triple) → IsWithinLimits x → All IsInk (text_of x)
xid_ink x h =
    All-append IsInk (signed_decimal x.format) (58 ∷ (hex x.gtrid ++ (58 ∷ hex x.bqual))) (signed_ink x.format h.format)
    (All-cons IsInk 58 (hex x.gtrid ++ (58 ∷ hex x.bqual)) (ink 58 (omega arith))
    (All-append IsInk (hex x.gtrid) (58 ∷ hex x.bqual) (hex_ink x.gtrid) (All-cons IsInk 58 (hex x.bqual) (ink 58 (omega arith)) (hex_ink x.bqual))))

-- a text without blanks is one word
word_from : (place : Place) (text : List ℕ) → All IsInk text → words_from place text ≡ text ∷ []
word_from place [] all = refl
word_from place (c ∷ cs) all =
    let above = All-head IsInk c cs all in
    rw (ne_eqb c 32 (λ e. omega (arith, e, above))) (ap (onto_first c) (word_from (next_place place c) cs (All-tail IsInk c cs all)))

one_word : (text : List ℕ) → All IsInk text → words text ≡ text ∷ []
one_word text all = word_from Front text all

xid_word : (x : Triple) → IsWithinLimits x → words (text_of x) ≡ text_of x ∷ []
xid_word x h = one_word (text_of x) (xid_ink x h)

both_true : (a b : Bool) → (a && b) ≡ true → (a ≡ true) × (b ≡ true)
both_true true b h = (refl, h)
both_true false b h = absurd (cc h)

graphic_ink : (name : List ℕ) → is_graphic name ≡ true → All IsInk name
graphic_ink [] h = All-nil IsInk
graphic_ink (c ∷ cs) h =
    let both = both_true (nat_le 33 c && nat_le c 126) (is_graphic cs) h in
    let front = both_true (nat_le 33 c) (nat_le c 126) both.0 in
    let above : 33 ≤ c = grind (arith, nat_tests, front.0) in
    All-cons IsInk c cs (ink c above) (graphic_ink cs both.1)

name_word : (name : List ℕ) → is_name name ≡ true → words name ≡ name ∷ []
name_word name h =
    let first = both_true _ (is_graphic name) h in
    one_word name (graphic_ink name first.1)

-- a text without a carriage return stays
abbrev IsKept : ℕ → Type 0
IsKept b = (b == 13) ≡ false

kept : (text : List ℕ) → All IsKept text → strip_last 13 text ≡ text
kept text all = go (nat_lt 0 (length text)) refl
  where
    go : (b : Bool) → nat_lt 0 (length text) ≡ b → strip_last 13 text ≡ text
    go true e =
        let some : 0 < length text = grind (arith, nat_tests, e) in
        rw (e, all (length text - 1) 0 (omega (arith, some))) refl
    go false e = rw e refl

plain : (text : List ℕ) → list_all (λ b. not (b == 13)) text ≡ true → All IsKept text
plain [] h = All-nil IsKept
plain (c ∷ cs) h =
    let both = both_true (not (c == 13)) (list_all (λ b. not (b == 13)) cs) h in
    All-cons IsKept c cs (not_true_false (c == 13) both.0) (plain cs both.1)
  where
    not_true_false : (b : Bool) → not b ≡ true → b ≡ false
    not_true_false true e = cc
    not_true_false false e = refl

ends_in_ink : (front text : List ℕ) → list_all (λ b. not (b == 13)) front ≡ true → All IsInk text → strip_last 13 (front ++ text) ≡ front ++ text
ends_in_ink front text h inks =
    kept (front ++ text)
    (All-append IsKept front text (plain front h) (All-weaker IsInk IsKept (λ b above. ne_eqb b 13 (λ e. omega (arith, e, above))) text inks))

module _ (xid_of : List ℕ → Option Triple) (each : ReadsTexts xid_of) where
  opens : (name : List ℕ) → is_name name ≡ true → line_of xid_of (open_line name) ≡ said (called (Open TMNOFLAGS name))
  opens name named =
      let inks = graphic_ink name (both_true _ (is_graphic name) named).1 in
      ap (said_of xid_of) (ends_in_ink (codes "1 open TMNOFLAGS ") name refl inks) ∙ rw (name_word name named, named) refl

  -- a line that ends with an XID has no carriage return there
  about : (front : List ℕ) (xid : Triple) → list_all (λ b. not (b == 13)) front ≡ true → IsWithinLimits xid
      → line_of xid_of (front ++ text_of xid) ≡ said_of xid_of (front ++ text_of xid)
  about front xid h limits = ap (said_of xid_of) (ends_in_ink front (text_of xid) h (xid_ink xid limits))

  asks : (task : Task) → NamesWell task → line_of xid_of (call_text task) ≡ said (question_of task)
  asks Status h = refl
  asks Metrics h = refl
  asks AtWork h = refl
  asks Branches h = refl
  asks (Branch xid) h = refl
  asks Abandoned h = refl
  asks Recover h = refl
  asks RollbackMarked h = refl
  asks (Commit xid) h = about (codes "1 commit TMNOFLAGS ") xid refl h ∙ rw (xid_word xid h, each.each xid h) refl
  asks (Rollback xid) h = about (codes "1 rollback TMNOFLAGS ") xid refl h ∙ rw (xid_word xid h, each.each xid h) refl
  asks (Forget xid) h = about (codes "1 forget TMNOFLAGS ") xid refl h ∙ rw (xid_word xid h, each.each xid h) refl
  asks (Decide direction.Commit xid) h =
      about (codes "1 decide commit ") xid refl h ∙ rw (xid_word xid h, each.each xid h) refl
  asks (Decide direction.Rollback xid) h =
      about (codes "1 decide rollback ") xid refl h ∙ rw (xid_word xid h, each.each xid h) refl
  asks (Doom xid) h = about (codes "1 doom ") xid refl h ∙ rw (xid_word xid h, each.each xid h) refl
  asks (Disconnect session) h =
      let inks = decimal_ink session h.1 in
      ap (said_of xid_of) (ends_in_ink (codes "1 disconnect ") (decimal session) refl inks)
      ∙ rw (one_word (decimal session) inks, number_read session h.0 h.1) refl
  asks Trim h = refl
  asks Restart h = refl

  pub reads : (name : List ℕ) (task : Task) → is_name name ≡ true → NamesWell task → TalkReads xid_of name task
  reads name task named xid = record {
    connects = refl;
    opens = opens name named;
    asks = asks task xid;
    goes_on = refl;
    hangs_up = refl;
  }
