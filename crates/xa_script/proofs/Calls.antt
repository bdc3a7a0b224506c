-- The line of a request is read as that request of the session.
use Rattle.std.proofs.Common.{◌≡◌, ◌∙◌, ℕ, ◌<◌, ◌≤◌, ◌^◌, true, false, List, [], ◌∷◌, ◌++◌, Option, Some, None, refl, sym, ap, arith, codes}
use Rattle.std.specs.Prelude.{◌&&◌, bytes_eq, nat_le, length}
use Rattle.std.specs.Fmt.{decimal}
use Rattle.std.proofs.lemmas.Bool.{and_parts}
use Rattle.std.proofs.lemmas.Bool.Decides.{nat_tests}
use Rattle.xa_frame.specs.Limits.{Holds, HoldsCursor, IsRequest}
use Rattle.xa_frame.specs.declared.request.Request.{Request}
use Rattle.xa_frame.specs.declared.request.Request.TheVariants.{Open, Close, Start, End, Prepare, Commit, Rollback, Forget}
use Rattle.xa_frame.specs.declared.request.Request.TheVariants.{Recover, Get, Put, Delete, Decide, Doom, Restart, Timeout, Tick, Trim, Branches}
use Rattle.xa_limits.specs.declared.TheConstants.{MOST_INFO}
use Rattle.xa_script.specs.Asking.{HasName, HoldsBytes, cursor_words, flags_text, request_line, words_of, words_text}
use Rattle.xa_script.specs.Lines.{asked_of, is_silent, line_of, said_of}
use Rattle.xa_script.specs.Numbers.{number_of}
use Rattle.xa_script.specs.Replies.{value_text}
use Rattle.xa_script.specs.Requests.{ReadsTexts, is_graphic, is_name}
use Rattle.xa_script.specs.declared.line.Line.{Line}
use Rattle.xa_script.specs.declared.line.Line.TheVariants.{Call}
use Rattle.xa_script.proofs.Asked.{AreWords, is_simple, is_simple_character, line_stays, simple_graphic, words_are_read}
use Rattle.xa_script.proofs.Tables.{differs}
use Rattle.xa_script.proofs.Spelled.{count_read, decimal_simple, direction_read, direction_simple, flags_spell, hex_simple}
use Rattle.xa_script.proofs.Spelled.{key_read, moment_read, number_read, value_read, value_simple, xid_simple}
use Rattle.xa_xid.specs.Spelling.{hex, text_of}
use Rattle.xa_xid.specs.Triple.{Triple, IsWithinLimits}

abbrev AreAll : List (List ℕ) → Type 0
AreAll [] = Unit {0}
AreAll (word ∷ others) = AreWords word others

named : (info : List ℕ) → is_name info ≡ true → is_graphic info ≡ true
named info h = (and_parts (nat_le 1 (length info) && nat_le (length info) MOST_INFO) (is_graphic info) h).1

branch_words : (flags : ℕ) (xid : Triple) → (flags < 2 ^ 32) × IsWithinLimits xid → AreWords (flags_text flags) (text_of xid ∷ [])
branch_words flags xid h = ((flags_spell flags h.0).0, simple_graphic (text_of xid) (xid_simple xid h.1))

number_word : (n : ℕ) → n < 2 ^ 64 → is_graphic (decimal n) ≡ true
number_word n h = simple_graphic (decimal n) (decimal_simple n h)

listing_words : (count : ℕ) (after : Option Triple) → (count < 2 ^ 32) × HoldsCursor after → AreWords (decimal count) (cursor_words after)
listing_words count None h = number_word count (omega (arith, h.0))
listing_words count (Some xid) h = (decimal_simple count (omega (arith, h.0)), simple_graphic (text_of xid) (xid_simple xid h.1))

words_so : (request : Request) → Holds request → HoldsBytes request → HasName request → AreAll (words_of request)
words_so (Open flags info) h b s = (refl, ((flags_spell flags h).0, rw s (named info s)))
words_so (Close flags) h b s = (refl, simple_graphic (flags_text flags) (flags_spell flags h).0)
words_so (Start flags xid) h b s = (refl, branch_words flags xid h)
words_so (End flags xid) h b s = (refl, branch_words flags xid h)
words_so (Prepare flags xid) h b s = (refl, branch_words flags xid h)
words_so (Commit flags xid) h b s = (refl, branch_words flags xid h)
words_so (Rollback flags xid) h b s = (refl, branch_words flags xid h)
words_so (Forget flags xid) h b s = (refl, branch_words flags xid h)
words_so (Recover flags count) h b s = (refl, ((flags_spell flags h.0).0, number_word count (omega (arith, h.1))))
words_so (Get key) h b s = (refl, simple_graphic (hex key) (hex_simple key b))
words_so (Put key value) h b s = (refl, (hex_simple key b.0, simple_graphic (value_text value) (value_simple value b.1)))
words_so (Delete key) h b s = (refl, simple_graphic (hex key) (hex_simple key b))
words_so (Decide direction xid) h b s = (refl, (direction_simple direction, simple_graphic (text_of xid) (xid_simple xid h)))
words_so (Doom xid) h b s = (refl, simple_graphic (text_of xid) (xid_simple xid h))
words_so Restart h b s = refl
words_so (Timeout seconds) h b s = (refl, number_word seconds (omega (arith, h)))
words_so (Tick moment) h b s = (refl, number_word moment h)
words_so Trim h b s = refl
words_so (Branches count after) h b s = (refl, listing_words count after h)

no_comment : (ds rest : List ℕ) (n : ℕ) → number_of ds ≡ Some n → is_simple ds ≡ true → is_silent (ds ++ rest) ≡ false
no_comment [] rest n h k = cc
no_comment (d ∷ ds) rest n h k =
    let simple = (and_parts (is_simple_character d) (is_simple ds) k).0 in
    grind (arith, nat_tests, simple)

-- over what reads the texts of XIDs, and a session's number
module _ (xid_of : List ℕ → Option Triple) (reads : ReadsTexts xid_of) (n : ℕ) (some : 1 ≤ n) (small : n < 2 ^ 64) where
  number : number_of (decimal n) ≡ Some n
  number = number_read n some small

  no_word : (word : List ℕ) → number_of word ≡ None → bytes_eq (decimal n) word ≡ false
  no_word word none = differs (decimal n) word (λ e. let read : number_of word ≡ Some n = sym (ap number_of e) ∙ number in cc)

  -- the line of the session's number and other words, by what those ask of it
  by_its_words : (words : List (List ℕ)) → AreAll words → (said : Line) → asked_of xid_of (decimal n) words ≡ Some said →
      line_of xid_of (decimal n ++ words_text words) ≡ said
  by_its_words [] are said h = cc
  by_its_words (verb ∷ others) are said h =
      let all : AreWords (decimal n) (verb ∷ others) = (decimal_simple n small, are) in
      let speaks = no_comment (decimal n) (words_text (verb ∷ others)) n number (decimal_simple n small) in
      ap (said_of xid_of) (line_stays (decimal n) (verb ∷ others) all)
      ∙ rw (speaks, words_are_read (decimal n) (verb ∷ others) all, no_word (codes "fail") refl, no_word (codes "stop") refl, no_word (codes "crash") refl, h) refl

  asked_listing : (count : ℕ) (after : Option Triple) → (count < 2 ^ 32) × HoldsCursor after →
      asked_of xid_of (decimal n) (words_of (Branches count after)) ≡ Some (Call n (Branches count after))
  asked_listing count None h = rw (number, count_read count h.0) refl
  asked_listing count (Some xid) h = rw (number, count_read count h.0, reads.each xid h.1) refl

  asked_so : (request : Request) → IsRequest request → Holds request → HoldsBytes request → HasName request →
      asked_of xid_of (decimal n) (words_of request) ≡ Some (Call n request)
  asked_so (Open flags info) l h b s = rw (number, s, s, (flags_spell flags h).1) refl
  asked_so (Close flags) l h b s = rw (number, (flags_spell flags h).1) refl
  asked_so (Start flags xid) l h b s = rw (number, (flags_spell flags h.0).1, reads.each xid h.1) refl
  asked_so (End flags xid) l h b s = rw (number, (flags_spell flags h.0).1, reads.each xid h.1) refl
  asked_so (Prepare flags xid) l h b s = rw (number, (flags_spell flags h.0).1, reads.each xid h.1) refl
  asked_so (Commit flags xid) l h b s = rw (number, (flags_spell flags h.0).1, reads.each xid h.1) refl
  asked_so (Rollback flags xid) l h b s = rw (number, (flags_spell flags h.0).1, reads.each xid h.1) refl
  asked_so (Forget flags xid) l h b s = rw (number, (flags_spell flags h.0).1, reads.each xid h.1) refl
  asked_so (Recover flags count) l h b s = rw (number, (flags_spell flags h.0).1, count_read count h.1) refl
  asked_so (Get key) l h b s = rw (number, key_read key l b) refl
  asked_so (Put key value) l h b s = rw (number, key_read key l.0 b.0, value_read value l.1 b.1) refl
  asked_so (Delete key) l h b s = rw (number, key_read key l b) refl
  asked_so (Decide direction xid) l h b s = rw (number, direction_read direction, reads.each xid h) refl
  asked_so (Doom xid) l h b s = rw (number, reads.each xid h) refl
  asked_so Restart l h b s = rw number refl
  asked_so (Timeout seconds) l h b s = rw (number, count_read seconds h) refl
  asked_so (Tick moment) l h b s = rw (number, moment_read moment h) refl
  asked_so Trim l h b s = rw number refl
  asked_so (Branches count after) l h b s = asked_listing count after h

  pub request_read : (request : Request) → IsRequest request → Holds request → HoldsBytes request → HasName request →
      line_of xid_of (request_line n request) ≡ Call n request
  request_read request l h b s = by_its_words (words_of request) (words_so request h b s) (Call n request) (asked_so request l h b s)
