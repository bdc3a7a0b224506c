-- One exchange, and one after others.
use Rattle.std.proofs.Common.{◌≡◌, ◌⊎◌, ℕ, ◌+◌, ◌<◌, ◌≤◌, ◌^◌, List, [], ◌∷◌, ◌++◌, length, Option, Some, None, refl, sym, ap, ◌∙◌, inl, inr, append_assoc, append-nil, arith, subst, unwrap_or, Result, Ok, Err}
use Rattle.std.specs.Result.{result_err}
use Rattle.std.specs.List.{flat_map}
use Rattle.std.specs.Int.{to_be_bytes, w32}
use Rattle.std.specs.Io.KnownBytes.{Consumes, Appends, IsAtEnd}
use Rattle.std.proofs.lemmas.Grind.{flat_map-append}
use Rattle.std.proofs.lemmas.List.{length-append}
use Rattle.std.proofs.lemmas.List.Elements.{All-append, All-nil, All-cons}
use Rattle.xa_frame.specs.declared.question.Question.{Question}
use Rattle.xa_frame.specs.declared.reply.Reply.{Reply}
use Rattle.xa_frame.specs.Made.{bad_frame}
use Rattle.xa_output.proofs.Pieces.{appends_both, nothing_appended}
use Rattle.xa_desk.specs.declared.served.Served.{Served}
use Rattle.xa_desk.specs.declared.served.Served.TheVariants.{Ended, ReadFault, WriteFault, TooLong, Memory}
use Rattle.xa_desk.specs.Believed.Frames.{frame, reply_frame}
use Rattle.xa_desk.specs.Believed.Serving.{Answers, AnswersAll, IsShort, frames_of, Owes, Ends, Talks}
use Rattle.xa_desk.specs.Steps.{Lacks, ReadsLength, Sends, end_of}
use Rattle.xa_desk.proofs.Known.{consumes-none, consumes-twice}

pub answers-append : {D : Type 0} (called : D → Question → Reply → D → Type 0) (d m e : D) (cs ds : List (List ℕ)) (rs qs : List Reply)
    → AnswersAll called d cs rs m → AnswersAll called m ds qs e → AnswersAll called d (cs ++ ds) (rs ++ qs) e
answers-append {D} called d m e [] ds [] qs h k = subst (λ (x : D). AnswersAll called x ds qs e) (sym h) k
answers-append called d m e [] ds (y ∷ rs) qs h k = absurd h
answers-append called d m e (x ∷ cs) ds [] qs h k = absurd h
answers-append called d m e (x ∷ cs) ds (y ∷ rs) qs h k = (h.0, h.1, answers-append called h.0 m e cs ds rs qs h.2 k)

-- what was written after other replies
pub frames-behind : (rs qs : List Reply) (written : List ℕ) → written ≡ frames_of qs → frames_of rs ++ written ≡ frames_of (rs ++ qs)
frames-behind rs qs written h = ap (λ (bs : List ℕ). frames_of rs ++ bs) h ∙ sym (flat_map-append reply_frame rs qs)

owes-behind : (rs qs : List Reply) (read : List ℕ) (owed : List Reply) → Owes qs read owed → Owes (rs ++ qs) read (rs ++ owed)
owes-behind rs qs read owed (inl h) = inl (h.0, ap (λ (xs : List Reply). rs ++ xs) h.1)
owes-behind rs qs read owed (inr h) = inr (h.0, ap (λ (xs : List Reply). rs ++ xs) h.1 ∙ sym (append_assoc rs qs (bad_frame ∷ [])))

-- the same, for a last reply
owes-last : (rs qs sent : List Reply) (reply : Reply) (read : List ℕ) → Owes qs read (sent ++ reply ∷ []) → Owes (rs ++ qs) read ((rs ++ sent) ++ reply ∷ [])
owes-last rs qs sent reply read h =
    subst (λ (xs : List Reply). Owes (rs ++ qs) read xs) (sym (append_assoc rs sent (reply ∷ []))) (owes-behind rs qs read (sent ++ reply ∷ []) h)

ends-behind : (end : Option Served) (rs qs : List Reply) (read written : List ℕ) → Ends end qs read written → Ends end (rs ++ qs) read (frames_of rs ++ written)
ends-behind None rs qs read written h = (h.0, frames-behind rs qs written h.1)
ends-behind (Some Ended) rs qs read written h = (h.0, frames-behind rs qs written h.1)
ends-behind (Some ReadFault) rs qs read written h = (h.0, frames-behind rs qs written h.1)
ends-behind (Some TooLong) rs qs read written h =
    (h.0, frames-behind rs (qs ++ bad_frame ∷ []) written h.1 ∙ ap frames_of (sym (append_assoc rs qs (bad_frame ∷ []))))
ends-behind (Some WriteFault) rs qs read written h = (
  rs ++ h.0,
  h.1,
  h.2,
  owes-last rs qs h.0 h.1 read h.3,
  h.4,
  ap (λ (bs : List ℕ). frames_of rs ++ bs) h.5 ∙ (sym (append_assoc (frames_of rs) (frames_of h.0) h.2) ∙ ap (λ (bs : List ℕ). bs ++ h.2) (sym (flat_map-append reply_frame rs h.0))),
)
ends-behind (Some Memory) rs qs read written h = (
  rs ++ h.0,
  frames-behind rs h.0 written h.1,
  elim h.2 [ inl k ↦ inl (k.0, ap (λ (xs : List Reply). rs ++ xs) k.1) | inr k ↦ inr (k.0, owes-last rs qs h.0 k.0 read k.1) ],
)

-- fewer frames after others
fewer : (cs ds : List (List ℕ)) (most more all : ℕ) → length cs ≤ most → most + more ≤ all → length ds < more → length (cs ++ ds) < all
fewer cs ds most more all few within less = omega (arith, length-append cs ds, few, within, less)

-- an exchange after others
pub talks-behind : {D : Type 0} (called : D → Question → Reply → D → Type 0) (most more all : ℕ) (end : Option Served) (i j k o p q : Option (List ℕ)) (d m e : D)
    → most + more ≤ all → Talks called most None i j o p d m → Talks called more end j k p q m e → Talks called all end i k o q d e
talks-behind called most more all end i j k o p q d m e within s t =
    let P : List ℕ → Type 0 = λ bs. Consumes i j bs in
    let Q : List ℕ → Type 0 = λ bs. Appends o p bs in
    let R : List ℕ → Type 0 = λ bs. Consumes i k bs in
    let before : Consumes i j (flat_map frame s.contents) = subst P (ap (λ (bs : List ℕ). flat_map frame s.contents ++ bs) s.ends.0 ∙ append-nil (flat_map frame s.contents)) s.consumed in
    let sent : Appends o p (frames_of s.replies) = subst Q s.ends.1 s.appended in
    record {
      contents = s.contents ++ t.contents;
      replies = s.replies ++ t.replies;
      read = t.read;
      written = frames_of s.replies ++ t.written;
      short = All-append IsShort s.contents t.contents s.short t.short;
      few = omega (arith, length-append s.contents t.contents, s.few, t.few, within);
      consumed = subst R (sym (append_assoc (flat_map frame s.contents) (flat_map frame t.contents) t.read) ∙ ap (λ (bs : List ℕ). bs ++ t.read) (sym (flat_map-append frame s.contents t.contents)))
          (consumes-twice i j k (flat_map frame s.contents) (flat_map frame t.contents ++ t.read) before t.consumed);
      answered = answers-append called d m e s.contents t.contents s.replies t.replies s.answered t.answered;
      appended = appends_both o p q (frames_of s.replies) t.written sent t.appended;
      ends = ends-behind end s.replies t.replies t.read t.written t.ends;
      beyond = elim t.beyond [ inl h ↦ inl h | inr h ↦ inr (fewer s.contents t.contents most more all s.few within h) ];
      at_end = λ is. let h = t.at_end is in (h.0, fewer s.contents t.contents most more all s.few within h.1);
    }

-- nothing yet
pub talks-none : {D : Type 0} (called : D → Question → Reply → D → Type 0) (i o : Option (List ℕ)) (d : D) → Talks called 0 None i i o o d d
talks-none called i o d = record {
  contents = [];
  replies = [];
  read = [];
  written = [];
  short = All-nil IsShort;
  few = omega arith;
  consumed = consumes-none i;
  answered = refl;
  appended = nothing_appended o;
  ends = (refl, refl);
  beyond = inl refl;
  at_end = λ is. cc;
}

-- no door was reached, and this was read and written
alone : {D : Type 0} (called : D → Question → Reply → D → Type 0) (most : ℕ) (end : Served) (i j o p : Option (List ℕ)) (d : D) (read written : List ℕ)
    → Consumes i j read → Appends o p written → Ends (Some end) [] read written → (read ≡ []) ⊎ (0 < most) → (Some end ≡ Some Ended → IsAtEnd j × (0 < most)) → Talks called most (Some end) i j o p d d
alone called most end i j o p d read written h k ends beyond at_end = record {
  contents = [];
  replies = [];
  read = read;
  written = written;
  short = All-nil IsShort;
  few = omega arith;
  consumed = h;
  answered = refl;
  appended = k;
  ends = ends;
  beyond = beyond;
  at_end = at_end;
}

-- a length is cut
talks-cut : {D : Type 0} (called : D → Question → Reply → D → Type 0) (most : ℕ) (i j o : Option (List ℕ)) (d : D) (part : List ℕ)
    → length part < 4 → (part ≡ []) ⊎ (0 < most) → Consumes i j part → Talks called most (Some ReadFault) i j o o d d
talks-cut called most i j o d part less beyond h = alone called most ReadFault i j o o d part [] h (nothing_appended o) (inl less, refl) beyond (λ is. cc)

-- by the end of a conversation: after as many frames as it may have it ends too
pub talks-bound : {D : Type 0} (called : D → Question → Reply → D → Type 0) (most : ℕ) (end : Result (Unit {0}) Served) (i j o p : Option (List ℕ)) (d e : D)
    → Talks called most (end_of end) i j o p d e → Talks called most (Some (unwrap_or (result_err end) ReadFault)) i j o p d e
talks-bound called most (Ok x) i j o p d e s =
    talks-behind called most 0 most (Some ReadFault) i j j o p p d e e (omega arith) s (talks-cut called 0 j j p e [] (omega arith) (inl refl) (consumes-none j))
talks-bound called most (Err end) i j o p d e s = s

-- a length is too great, and the reply to it was written
pub talks-too-long : {D : Type 0} (called : D → Question → Reply → D → Type 0) (reply : Reply) (i j o p : Option (List ℕ)) (d : D) (n : ℕ)
    → reply ≡ bad_frame → 65535 < n → n < 2 ^ 32 → Consumes i j (to_be_bytes w32 n) → Appends o p (reply_frame reply) → Talks called 1 (Some TooLong) i j o p d d
talks-too-long called reply i j o p d n is more bound h k =
    let P : Reply → Type 0 = λ x. Appends o p (reply_frame x) in
    alone called 1 TooLong i j o p d (to_be_bytes w32 n) (reply_frame bad_frame) h (subst P is k) ((n, more, bound, refl), sym (append-nil (reply_frame bad_frame))) (inr (omega arith)) (λ is. cc)

-- the same, and it was not, or not all of it
unsent : {D : Type 0} (called : D → Question → Reply → D → Type 0) (end : Served) (i j o p : Option (List ℕ)) (d : D) (n : ℕ)
    → 65535 < n → n < 2 ^ 32 → Consumes i j (to_be_bytes w32 n) → Sends {X = Unit {0}} (Err end) (reply_frame bad_frame) o p → Talks called 1 (Some end) i j o p d d
unsent called WriteFault i j o p d n more bound h k =
    alone called 1 WriteFault i j o p d (to_be_bytes w32 n) k.0 h k.2 ([], bad_frame, k.0, inr ((n, more, bound, refl), refl), k.1, refl) (inr (omega arith)) (λ is. cc)
unsent called Memory i j o p d n more bound h k =
    alone called 1 Memory i j o p d (to_be_bytes w32 n) [] h k ([], refl, inr (bad_frame, inr ((n, more, bound, refl), refl))) (inr (omega arith)) (λ is. cc)
unsent called Ended i j o p d n more bound h k = absurd k
unsent called ReadFault i j o p d n more bound h k = absurd k
unsent called TooLong i j o p d n more bound h k = absurd k

pub talks-unsent : {D : Type 0} (called : D → Question → Reply → D → Type 0) (end : Served) (reply : Reply) (i j o p : Option (List ℕ)) (d : D) (n : ℕ)
    → reply ≡ bad_frame → 65535 < n → n < 2 ^ 32 → Consumes i j (to_be_bytes w32 n) → Sends {X = Unit {0}} (Err end) (reply_frame reply) o p → Talks called 1 (Some end) i j o p d d
talks-unsent called end reply i j o p d n is more bound h k =
    let Q : Reply → Type 0 = λ x. Sends {X = Unit {0}} (Err end) (reply_frame x) o p in
    unsent called end i j o p d n more bound h (subst Q is k)

-- no length was read
pub talks-unread : {D : Type 0} (called : D → Question → Reply → D → Type 0) (end : Served) (i j o : Option (List ℕ)) (d : D)
    → ReadsLength (Err end) i j → Talks called 1 (Some end) i j o o d d
talks-unread called Ended i j o d h = alone called 1 Ended i j o o d [] [] h.0 (nothing_appended o) (refl, refl) (inl refl) (λ is. (h.1, omega arith))
talks-unread called ReadFault i j o d h = talks-cut called 1 i j o d h.0 h.1 (inr (omega arith)) h.2
talks-unread called WriteFault i j o d h = absurd h
talks-unread called TooLong i j o d h = absurd h
talks-unread called Memory i j o d h = absurd h

-- a content was not read
pub talks-lacking : {D : Type 0} (called : D → Question → Reply → D → Type 0) (end : Served) (i j k o : Option (List ℕ)) (d : D) (n : ℕ)
    → n ≤ 65535 → Consumes i j (to_be_bytes w32 n) → Lacks end n j k → Talks called 1 (Some end) i k o o d d
talks-lacking called Memory i j k o d n few h l =
    let P : List ℕ → Type 0 = λ bs. Consumes i k bs in
    let whole : Consumes i k (to_be_bytes w32 n) = subst P (append-nil (to_be_bytes w32 n)) (consumes-twice i j k (to_be_bytes w32 n) [] h l) in
    alone called 1 Memory i k o o d (to_be_bytes w32 n) [] whole (nothing_appended o) ([], refl, inl ((n, few, refl), refl)) (inr (omega arith)) (λ is. cc)
talks-lacking called ReadFault i j k o d n few h l =
    alone called 1 ReadFault i k o o d (to_be_bytes w32 n ++ l.0) [] (consumes-twice i j k (to_be_bytes w32 n) l.0 h l.2) (nothing_appended o) (inr (n, l.0, few, l.1, refl), refl) (inr (omega arith)) (λ is. cc)
talks-lacking called Ended i j k o d n few h l = absurd l
talks-lacking called WriteFault i j k o d n few h l = absurd l
talks-lacking called TooLong i j k o d n few h l = absurd l

-- a content was answered, and this was written
answered-so : {D : Type 0} (called : D → Question → Reply → D → Type 0) (end : Option Served) (i j o p : Option (List ℕ)) (d e : D) (c : List ℕ) (r : Reply) (written : List ℕ)
    → length c ≤ 65535 → Consumes i j (frame c) → Answers called d c r e → Appends o p written → Ends end (r ∷ []) [] written → (end ≡ Some Ended → IsAtEnd j × (1 < 1)) → Talks called 1 end i j o p d e
answered-so called end i j o p d e c r written few h said k ends at_end =
    let P : List ℕ → Type 0 = λ bs. Consumes i j bs in
    record {
      contents = c ∷ [];
      replies = r ∷ [];
      read = [];
      written = written;
      short = All-cons IsShort c [] few (All-nil IsShort);
      few = omega arith;
      consumed = subst P (sym (append-nil (frame c ++ []) ∙ append-nil (frame c))) h;
      answered = (e, said, refl);
      appended = k;
      ends = ends;
      beyond = inl refl;
      at_end = at_end;
    }

sent-so : {D : Type 0} (called : D → Question → Reply → D → Type 0) (sent : Result (Unit {0}) Served) (i j o p : Option (List ℕ)) (d e : D) (c : List ℕ) (r : Reply)
    → length c ≤ 65535 → Consumes i j (frame c) → Answers called d c r e → Sends sent (reply_frame r) o p → Talks called 1 (end_of sent) i j o p d e
sent-so called (Ok x) i j o p d e c r few h said k = answered-so called None i j o p d e c r (reply_frame r) few h said k (refl, sym (append-nil (reply_frame r))) (λ is. cc)
sent-so called (Err WriteFault) i j o p d e c r few h said k =
    answered-so called (Some WriteFault) i j o p d e c r k.0 few h said k.2 ([], r, k.0, inl (refl, refl), k.1, refl) (λ is. cc)
sent-so called (Err Memory) i j o p d e c r few h said k = answered-so called (Some Memory) i j o p d e c r [] few h said k ([], refl, inr (r, inl (refl, refl))) (λ is. cc)
sent-so called (Err Ended) i j o p d e c r few h said k = absurd k
sent-so called (Err ReadFault) i j o p d e c r few h said k = absurd k
sent-so called (Err TooLong) i j o p d e c r few h said k = absurd k

pub talks-answered : {D : Type 0} (called : D → Question → Reply → D → Type 0) (sent : Result (Unit {0}) Served) (i j k o p : Option (List ℕ)) (d e : D) (n : ℕ) (c content : List ℕ) (r : Reply)
    → n ≤ 65535 → Consumes i j (to_be_bytes w32 n) → length c ≡ n → Consumes j k c → content ≡ c → Answers called d content r e → Sends sent (reply_frame r) o p → Talks called 1 (end_of sent) i k o p d e
talks-answered called sent i j k o p d e n c content r few front len body same said s =
    let Q : List ℕ → Type 0 = λ xs. Answers called d xs r e in
    let P : ℕ → Type 0 = λ m. Consumes i k (to_be_bytes w32 m ++ c) in
    let whole : Consumes i k (frame c) = subst P (sym len) (consumes-twice i j k (to_be_bytes w32 n) c front body) in
    let short : length c ≤ 65535 = omega arith in
    sent-so called sent i k o p d e c r short whole (subst Q same said) s
