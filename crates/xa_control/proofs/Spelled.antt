-- What is asked and what is answered have one content each.
use Rattle.std.proofs.Common.{◌≡◌, ◌≢◌, ℕ, ℤ, pos, ◌+◌, ◌*◌, ◌^◌, ◌<◌, ◌≤◌, List, [], ◌∷◌, ◌++◌, length, get_or, drop, All, refl, sym, ap, ◌∙◌, arith}
use Rattle.std.specs.Int.{w64, to_be_bytes}
use Rattle.std.proofs.lemmas.List.{length-append, nil_from_length}
use Rattle.xa_codes.specs.declared.detail.Detail.{Detail}
use Rattle.xa_codes.specs.declared.detail.Detail.TheVariants.{Nothing}
use Rattle.xa_xid.specs.Triple.{IsWithinLimits, Triple}
use Rattle.xa_xid.specs.Spelling.{bytes_of}
use Rattle.xa_frame.specs.declared.reply.Reply.{Reply}
use Rattle.xa_frame.specs.Made.{detailed}
use Rattle.xa_frame.specs.Spelling.{SpellsReply, bytes_of_reply, counted_bytes}
use Rattle.xa_frame.proofs.Replies.{one_reply}
use Rattle.xa_control.specs.declared.answer.Answer.{Answer}
use Rattle.xa_control.specs.declared.answer.Answer.TheVariants.{Done, Refused, Hello, Metrics, Sessions, Challenge, Welcome}
use Rattle.xa_control.specs.declared.control.Control.{Control}
use Rattle.xa_control.specs.declared.control.Control.TheVariants as control
use Rattle.xa_control.specs.declared.hello.Hello as hello
use Rattle.xa_control.specs.Answers.{Says, SpellsAnswer, bytes_of_answer, well_bytes}
use Rattle.xa_control.specs.Controls.{HoldsHello, SpellsControl, bytes_of_control, hello_bytes}
use Rattle.xa_control.specs.Laws.{IsOneSpelling}
use Rattle.xa_control.specs.Messages.{IsMessage}
use Rattle.xa_control.proofs.Counted.{long, same_eight, same_four, same_numbers, spell}
use Rattle.xa_control.proofs.Named.{same_branch}

abbrev Greeting : Type 0
Greeting = hello.Hello

-- how long each is
reply_long : (code : ℤ) (detail : Detail) → length (bytes_of_reply (detailed code detail)) ≡ 15
reply_long code detail = refl

metrics_long : (ns : List ℕ) → length (bytes_of_answer (Metrics ns)) ≡ 17 + 8 * length ns
metrics_long ns = omega (arith, long ns)

sessions_long : (ns : List ℕ) → length (bytes_of_answer (Sessions ns)) ≡ 17 + 8 * length ns
sessions_long ns = omega (arith, long ns)

pub spells_done : (bytes : List ℕ) → SpellsAnswer bytes Done → SpellsReply bytes (detailed (pos 0) Nothing)
spells_done bytes h = record { limits = tt; holds = record { code = omega arith; place = omega arith; body = tt }; bytes_are = h.bytes_are }

pub spells_refused : (bytes : List ℕ) (code : ℤ) (detail : Detail) → SpellsAnswer bytes (Refused code detail)
    → SpellsReply bytes (detailed code detail)
spells_refused bytes code detail h =
    record { limits = tt; holds = record { code = h.holds; place = omega arith; body = tt }; bytes_are = h.bytes_are }

same_hello : (g h : Greeting) → HoldsHello g → HoldsHello h → hello_bytes g ≡ hello_bytes h → g ≡ h
same_hello g h a b e =
    let first = same_four g.revision h.revision (to_be_bytes w64 g.features) (to_be_bytes w64 h.features) a.0 b.0 e in
    let second : g.features ≡ h.features = same_eight g.features h.features a.1 b.1 first.1 in
    (λ i. record { revision = first.0 i; features = second i })

same_refusal : (code code' : ℤ) (detail detail' : Detail) → detailed code detail ≡ detailed code' detail'
    → Refused code detail ≡ Refused code' detail'
same_refusal code code' detail detail' e =
    (λ i. Refused (ap (λ (r : Reply). r.code) e i) (ap (λ (r : Reply). r.detail) e i))

long_as : (bytes : List ℕ) (a : Answer) → SpellsAnswer bytes a → length bytes ≡ length (bytes_of_answer a)
long_as bytes a h = ap (λ (bs : List ℕ). length bs) h.bytes_are

-- the kind of the body
abbrev kind : Answer → ℕ
kind Done = 0
kind (Refused code detail) = 0
kind (Hello g) = 8
kind (Metrics ns) = 9
kind (Sessions ns) = 10
kind (Challenge m) = 11
kind (Welcome m) = 12

kind_at : (a : Answer) → get_or (bytes_of_answer a) 14 0 ≡ kind a
kind_at Done = refl
kind_at (Refused code detail) = refl
kind_at (Hello g) = refl
kind_at (Metrics ns) = refl
kind_at (Sessions ns) = refl
kind_at (Challenge m) = refl
kind_at (Welcome m) = refl

kind_in : (bytes : List ℕ) (a : Answer) → SpellsAnswer bytes a → get_or bytes 14 0 ≡ kind a
kind_in bytes a h = ap (λ (bs : List ℕ). get_or bs 14 0) h.bytes_are ∙ kind_at a

one_kind : (bytes : List ℕ) (x y : Answer) → SpellsAnswer bytes x → SpellsAnswer bytes y → kind x ≡ kind y
one_kind bytes x y h k = sym (kind_in bytes x h) ∙ kind_in bytes y k

not_done : (bytes : List ℕ) (code : ℤ) (detail : Detail) → SpellsAnswer bytes Done → SpellsAnswer bytes (Refused code detail) → ⊥
not_done bytes code detail h k =
    let same : detailed (pos 0) Nothing ≡ detailed code detail =
    one_reply.value bytes _ _ (spells_done bytes h) (spells_refused bytes code detail k) in
    k.limits (sym (ap (λ (r : Reply). r.code) same))

same_counted : (kind : ℕ) (bytes ms ns : List ℕ) → All (λ n. n < 2 ^ 64) ms → All (λ n. n < 2 ^ 64) ns
    → bytes ≡ well_bytes ++ kind ∷ counted_bytes (to_be_bytes w64) ms → bytes ≡ well_bytes ++ kind ∷ counted_bytes (to_be_bytes w64) ns → ms ≡ ns
same_counted kind bytes ms ns a b h k =
    let behind : spell ms ≡ spell ns = ap (λ (bs : List ℕ). drop 17 bs) (sym h ∙ k) in
    same_numbers ms ns a b behind

same_greeting : (bytes : List ℕ) (g h : Greeting) → SpellsAnswer bytes (Hello g) → SpellsAnswer bytes (Hello h) → g ≡ h
same_greeting bytes g h k l =
    let e : well_bytes ++ 8 ∷ hello_bytes g ≡ well_bytes ++ 8 ∷ hello_bytes h = sym k.bytes_are ∙ l.bytes_are in
    same_hello g h k.holds l.holds (ap (λ (bs : List ℕ). drop 15 bs) e)

same_message : (kind : ℕ) (bytes m m' : List ℕ) → bytes ≡ well_bytes ++ kind ∷ m → bytes ≡ well_bytes ++ kind ∷ m' → m ≡ m'
same_message kind bytes m m' h k = ap (λ (bs : List ℕ). drop 15 bs) (sym h ∙ k)

pub value : (bytes : List ℕ) (x y : Answer) → SpellsAnswer bytes x → SpellsAnswer bytes y → x ≡ y
value bytes Done Done h k = refl
value bytes Done (Refused code' detail') h k = absurd (not_done bytes code' detail' h k)
value bytes Done (Hello g') h k = absurd (omega (arith, one_kind bytes _ _ h k))
value bytes Done (Metrics ns') h k = absurd (omega (arith, one_kind bytes _ _ h k))
value bytes Done (Sessions ns') h k = absurd (omega (arith, one_kind bytes _ _ h k))
value bytes Done (Challenge m') h k = absurd (omega (arith, one_kind bytes _ _ h k))
value bytes Done (Welcome m') h k = absurd (omega (arith, one_kind bytes _ _ h k))
value bytes (Refused code detail) Done h k = absurd (not_done bytes code detail k h)
value bytes (Refused code detail) (Refused code' detail') h k =
    same_refusal code code' detail detail' (one_reply.value bytes _ _ (spells_refused bytes code detail h) (spells_refused bytes code' detail' k))
value bytes (Refused code detail) (Hello g') h k = absurd (omega (arith, one_kind bytes _ _ h k))
value bytes (Refused code detail) (Metrics ns') h k = absurd (omega (arith, one_kind bytes _ _ h k))
value bytes (Refused code detail) (Sessions ns') h k = absurd (omega (arith, one_kind bytes _ _ h k))
value bytes (Refused code detail) (Challenge m') h k = absurd (omega (arith, one_kind bytes _ _ h k))
value bytes (Refused code detail) (Welcome m') h k = absurd (omega (arith, one_kind bytes _ _ h k))
value bytes (Hello g) Done h k = absurd (omega (arith, one_kind bytes _ _ h k))
value bytes (Hello g) (Refused code' detail') h k = absurd (omega (arith, one_kind bytes _ _ h k))
value bytes (Hello g) (Hello g') h k = ap (λ (x : Greeting). Hello x) (same_greeting bytes g g' h k)
value bytes (Hello g) (Metrics ns') h k = absurd (omega (arith, one_kind bytes _ _ h k))
value bytes (Hello g) (Sessions ns') h k = absurd (omega (arith, one_kind bytes _ _ h k))
value bytes (Hello g) (Challenge m') h k = absurd (omega (arith, one_kind bytes _ _ h k))
value bytes (Hello g) (Welcome m') h k = absurd (omega (arith, one_kind bytes _ _ h k))
value bytes (Metrics ns) Done h k = absurd (omega (arith, one_kind bytes _ _ h k))
value bytes (Metrics ns) (Refused code' detail') h k = absurd (omega (arith, one_kind bytes _ _ h k))
value bytes (Metrics ns) (Hello g') h k = absurd (omega (arith, one_kind bytes _ _ h k))
value bytes (Metrics ns) (Metrics ns') h k =
    ap (λ (x : List ℕ). Metrics x) (same_counted 9 bytes ns ns' h.holds k.holds h.bytes_are k.bytes_are)
value bytes (Metrics ns) (Sessions ns') h k = absurd (omega (arith, one_kind bytes _ _ h k))
value bytes (Metrics ns) (Challenge m') h k = absurd (omega (arith, one_kind bytes _ _ h k))
value bytes (Metrics ns) (Welcome m') h k = absurd (omega (arith, one_kind bytes _ _ h k))
value bytes (Sessions ns) Done h k = absurd (omega (arith, one_kind bytes _ _ h k))
value bytes (Sessions ns) (Refused code' detail') h k = absurd (omega (arith, one_kind bytes _ _ h k))
value bytes (Sessions ns) (Hello g') h k = absurd (omega (arith, one_kind bytes _ _ h k))
value bytes (Sessions ns) (Metrics ns') h k = absurd (omega (arith, one_kind bytes _ _ h k))
value bytes (Sessions ns) (Sessions ns') h k =
    ap (λ (x : List ℕ). Sessions x) (same_counted 10 bytes ns ns' h.holds k.holds h.bytes_are k.bytes_are)
value bytes (Sessions ns) (Challenge m') h k = absurd (omega (arith, one_kind bytes _ _ h k))
value bytes (Sessions ns) (Welcome m') h k = absurd (omega (arith, one_kind bytes _ _ h k))
value bytes (Challenge m) Done h k = absurd (omega (arith, one_kind bytes _ _ h k))
value bytes (Challenge m) (Refused code' detail') h k = absurd (omega (arith, one_kind bytes _ _ h k))
value bytes (Challenge m) (Hello g') h k = absurd (omega (arith, one_kind bytes _ _ h k))
value bytes (Challenge m) (Metrics ns') h k = absurd (omega (arith, one_kind bytes _ _ h k))
value bytes (Challenge m) (Sessions ns') h k = absurd (omega (arith, one_kind bytes _ _ h k))
value bytes (Challenge m) (Challenge m') h k = ap (λ (x : List ℕ). Challenge x) (same_message 11 bytes m m' h.bytes_are k.bytes_are)
value bytes (Challenge m) (Welcome m') h k = absurd (omega (arith, one_kind bytes _ _ h k))
value bytes (Welcome m) Done h k = absurd (omega (arith, one_kind bytes _ _ h k))
value bytes (Welcome m) (Refused code' detail') h k = absurd (omega (arith, one_kind bytes _ _ h k))
value bytes (Welcome m) (Hello g') h k = absurd (omega (arith, one_kind bytes _ _ h k))
value bytes (Welcome m) (Metrics ns') h k = absurd (omega (arith, one_kind bytes _ _ h k))
value bytes (Welcome m) (Sessions ns') h k = absurd (omega (arith, one_kind bytes _ _ h k))
value bytes (Welcome m) (Challenge m') h k = absurd (omega (arith, one_kind bytes _ _ h k))
value bytes (Welcome m) (Welcome m') h k = ap (λ (x : List ℕ). Welcome x) (same_message 12 bytes m m' h.bytes_are k.bytes_are)

short : (bytes : List ℕ) (x : Answer) → SpellsAnswer bytes x → length bytes ≤ 65535
short bytes Done h = omega (arith, long_as bytes Done h)
short bytes (Refused code detail) h = omega (arith, long_as bytes (Refused code detail) h)
short bytes (Hello g) h = omega (arith, long_as bytes (Hello g) h)
short bytes (Metrics ns) h = omega (arith, long_as bytes (Metrics ns) h, metrics_long ns, h.limits)
short bytes (Sessions ns) h = omega (arith, long_as bytes (Sessions ns) h, sessions_long ns, h.limits)
short bytes (Challenge m) h = omega (arith, long_as bytes (Challenge m) h, h.holds.few)
short bytes (Welcome m) h = omega (arith, long_as bytes (Welcome m) h, h.holds.few)

pub one_answer : IsOneSpelling SpellsAnswer
one_answer = record { value = value; content = λ a b x h k. h.bytes_are ∙ sym k.bytes_are; short = short }

bare_message : (kind : ℕ) (bytes m : List ℕ) → length bytes ≡ 15 → bytes ≡ well_bytes ++ kind ∷ m → well_bytes ++ kind ∷ m ≡ well_bytes ++ kind ∷ []
bare_message kind bytes m len is =
    ap (λ (bs : List ℕ). well_bytes ++ kind ∷ bs) (nil_from_length m (omega (arith, len, ap (λ (bs : List ℕ). length bs) is)))

-- what is as long as a reply that carries nothing, and carries no empty message
pub only_plain : (bytes : List ℕ) (a : Answer) (r : Reply) → length bytes ≡ 15 → bytes ≢ well_bytes ++ 11 ∷ [] → bytes ≢ well_bytes ++ 12 ∷ []
    → SpellsReply bytes r → SpellsAnswer bytes a → Says r a
only_plain bytes Done r len eleven twelve s h = one_reply.value bytes r _ s (spells_done bytes h)
only_plain bytes (Refused code detail) r len eleven twelve s h = (h.limits, one_reply.value bytes r _ s (spells_refused bytes code detail h))
only_plain bytes (Hello g) r len eleven twelve s h = absurd (omega (arith, len, long_as bytes (Hello g) h))
only_plain bytes (Metrics ns) r len eleven twelve s h = absurd (omega (arith, len, long_as bytes (Metrics ns) h, metrics_long ns))
only_plain bytes (Sessions ns) r len eleven twelve s h = absurd (omega (arith, len, long_as bytes (Sessions ns) h, sessions_long ns))
only_plain bytes (Challenge m) r len eleven twelve s h = absurd (eleven (h.bytes_are ∙ bare_message 11 bytes m len h.bytes_are))
only_plain bytes (Welcome m) r len eleven twelve s h = absurd (twelve (h.bytes_are ∙ bare_message 12 bytes m len h.bytes_are))

-- the operation
abbrev operation : Control → ℕ
operation control.Shutdown = 69
operation (control.Hello g) = 70
operation (control.Disconnect n) = 71
operation control.Metrics = 72
operation (control.Sessions x) = 73
operation (control.First m) = 74
operation (control.Final m) = 75

operation_at : (k : Control) → get_or (bytes_of_control k) 1 0 ≡ operation k
operation_at control.Shutdown = refl
operation_at (control.Hello g) = refl
operation_at (control.Disconnect n) = refl
operation_at control.Metrics = refl
operation_at (control.Sessions x) = refl
operation_at (control.First m) = refl
operation_at (control.Final m) = refl

operation_in : (n : ℕ) (fields : List ℕ) (k : Control) → SpellsControl (1 ∷ n ∷ fields) k → n ≡ operation k
operation_in n fields k h = ap (λ (bs : List ℕ). get_or bs 1 0) h.bytes_are ∙ operation_at k

one_operation : (bytes : List ℕ) (j k : Control) → SpellsControl bytes j → SpellsControl bytes k → operation j ≡ operation k
one_operation bytes j k h i = sym (operation_at j) ∙ ap (λ (bs : List ℕ). get_or bs 1 0) (sym h.bytes_are ∙ i.bytes_are) ∙ operation_at k

-- the fields
behind : (bytes : List ℕ) (j k : Control) → SpellsControl bytes j → SpellsControl bytes k → drop 2 (bytes_of_control j) ≡ drop 2 (bytes_of_control k)
behind bytes j k h i = ap (λ (bs : List ℕ). drop 2 bs) (sym h.bytes_are ∙ i.bytes_are)

-- what asks for a session's connection to end
pub only_cut : (fields : List ℕ) (k : Control) → SpellsControl (1 ∷ 71 ∷ fields) k
    → (n : ℕ) × (k ≡ control.Disconnect n) × (n < 2 ^ 64) × (fields ≡ to_be_bytes w64 n)
only_cut fields control.Shutdown h = absurd (omega (arith, operation_in 71 fields _ h))
only_cut fields (control.Hello g) h = absurd (omega (arith, operation_in 71 fields _ h))
only_cut fields (control.Disconnect n) h = (n, refl, h.holds, ap (λ (bs : List ℕ). drop 2 bs) h.bytes_are)
only_cut fields control.Metrics h = absurd (omega (arith, operation_in 71 fields _ h))
only_cut fields (control.Sessions x) h = absurd (omega (arith, operation_in 71 fields _ h))
only_cut fields (control.First m) h = absurd (omega (arith, operation_in 71 fields _ h))
only_cut fields (control.Final m) h = absurd (omega (arith, operation_in 71 fields _ h))

-- what asks for the sessions of a branch
pub only_listing : (fields : List ℕ) (k : Control) → SpellsControl (1 ∷ 73 ∷ fields) k
    → (x : Triple) × (k ≡ control.Sessions x) × IsWithinLimits x × (fields ≡ bytes_of x)
only_listing fields control.Shutdown h = absurd (omega (arith, operation_in 73 fields _ h))
only_listing fields (control.Hello g) h = absurd (omega (arith, operation_in 73 fields _ h))
only_listing fields (control.Disconnect n) h = absurd (omega (arith, operation_in 73 fields _ h))
only_listing fields control.Metrics h = absurd (omega (arith, operation_in 73 fields _ h))
only_listing fields (control.Sessions x) h = (x, refl, h.holds, ap (λ (bs : List ℕ). drop 2 bs) h.bytes_are)
only_listing fields (control.First m) h = absurd (omega (arith, operation_in 73 fields _ h))
only_listing fields (control.Final m) h = absurd (omega (arith, operation_in 73 fields _ h))

-- what begins a login
pub only_first : (fields : List ℕ) (k : Control) → SpellsControl (1 ∷ 74 ∷ fields) k
    → (m : List ℕ) × (k ≡ control.First m) × IsMessage m × (fields ≡ m)
only_first fields control.Shutdown h = absurd (omega (arith, operation_in 74 fields _ h))
only_first fields (control.Hello g) h = absurd (omega (arith, operation_in 74 fields _ h))
only_first fields (control.Disconnect n) h = absurd (omega (arith, operation_in 74 fields _ h))
only_first fields control.Metrics h = absurd (omega (arith, operation_in 74 fields _ h))
only_first fields (control.Sessions x) h = absurd (omega (arith, operation_in 74 fields _ h))
only_first fields (control.First m) h = (m, refl, h.holds, ap (λ (bs : List ℕ). drop 2 bs) h.bytes_are)
only_first fields (control.Final m) h = absurd (omega (arith, operation_in 74 fields _ h))

-- what ends a login
pub only_final : (fields : List ℕ) (k : Control) → SpellsControl (1 ∷ 75 ∷ fields) k
    → (m : List ℕ) × (k ≡ control.Final m) × IsMessage m × (fields ≡ m)
only_final fields control.Shutdown h = absurd (omega (arith, operation_in 75 fields _ h))
only_final fields (control.Hello g) h = absurd (omega (arith, operation_in 75 fields _ h))
only_final fields (control.Disconnect n) h = absurd (omega (arith, operation_in 75 fields _ h))
only_final fields control.Metrics h = absurd (omega (arith, operation_in 75 fields _ h))
only_final fields (control.Sessions x) h = absurd (omega (arith, operation_in 75 fields _ h))
only_final fields (control.First m) h = absurd (omega (arith, operation_in 75 fields _ h))
only_final fields (control.Final m) h = (m, refl, h.holds, ap (λ (bs : List ℕ). drop 2 bs) h.bytes_are)

same_control : (bytes : List ℕ) (j k : Control) → SpellsControl bytes j → SpellsControl bytes k → j ≡ k
same_control bytes control.Shutdown control.Shutdown h i = refl
same_control bytes control.Shutdown (control.Hello g') h i = absurd (omega (arith, one_operation bytes _ _ h i))
same_control bytes control.Shutdown (control.Disconnect n') h i = absurd (omega (arith, one_operation bytes _ _ h i))
same_control bytes control.Shutdown control.Metrics h i = absurd (omega (arith, one_operation bytes _ _ h i))
same_control bytes control.Shutdown (control.Sessions x') h i = absurd (omega (arith, one_operation bytes _ _ h i))
same_control bytes control.Shutdown (control.First m') h i = absurd (omega (arith, one_operation bytes _ _ h i))
same_control bytes control.Shutdown (control.Final m') h i = absurd (omega (arith, one_operation bytes _ _ h i))
same_control bytes (control.Hello g) control.Shutdown h i = absurd (omega (arith, one_operation bytes _ _ h i))
same_control bytes (control.Hello g) (control.Hello g') h i =
    ap (λ (x : Greeting). control.Hello x) (same_hello g g' h.holds i.holds (behind bytes _ _ h i))
same_control bytes (control.Hello g) (control.Disconnect n') h i = absurd (omega (arith, one_operation bytes _ _ h i))
same_control bytes (control.Hello g) control.Metrics h i = absurd (omega (arith, one_operation bytes _ _ h i))
same_control bytes (control.Hello g) (control.Sessions x') h i = absurd (omega (arith, one_operation bytes _ _ h i))
same_control bytes (control.Hello g) (control.First m') h i = absurd (omega (arith, one_operation bytes _ _ h i))
same_control bytes (control.Hello g) (control.Final m') h i = absurd (omega (arith, one_operation bytes _ _ h i))
same_control bytes (control.Disconnect n) control.Shutdown h i = absurd (omega (arith, one_operation bytes _ _ h i))
same_control bytes (control.Disconnect n) (control.Hello g') h i = absurd (omega (arith, one_operation bytes _ _ h i))
same_control bytes (control.Disconnect n) (control.Disconnect n') h i =
    ap (λ (x : ℕ). control.Disconnect x) (same_eight n n' h.holds i.holds (behind bytes _ _ h i))
same_control bytes (control.Disconnect n) control.Metrics h i = absurd (omega (arith, one_operation bytes _ _ h i))
same_control bytes (control.Disconnect n) (control.Sessions x') h i = absurd (omega (arith, one_operation bytes _ _ h i))
same_control bytes (control.Disconnect n) (control.First m') h i = absurd (omega (arith, one_operation bytes _ _ h i))
same_control bytes (control.Disconnect n) (control.Final m') h i = absurd (omega (arith, one_operation bytes _ _ h i))
same_control bytes control.Metrics control.Shutdown h i = absurd (omega (arith, one_operation bytes _ _ h i))
same_control bytes control.Metrics (control.Hello g') h i = absurd (omega (arith, one_operation bytes _ _ h i))
same_control bytes control.Metrics (control.Disconnect n') h i = absurd (omega (arith, one_operation bytes _ _ h i))
same_control bytes control.Metrics control.Metrics h i = refl
same_control bytes control.Metrics (control.Sessions x') h i = absurd (omega (arith, one_operation bytes _ _ h i))
same_control bytes control.Metrics (control.First m') h i = absurd (omega (arith, one_operation bytes _ _ h i))
same_control bytes control.Metrics (control.Final m') h i = absurd (omega (arith, one_operation bytes _ _ h i))
same_control bytes (control.Sessions x) control.Shutdown h i = absurd (omega (arith, one_operation bytes _ _ h i))
same_control bytes (control.Sessions x) (control.Hello g') h i = absurd (omega (arith, one_operation bytes _ _ h i))
same_control bytes (control.Sessions x) (control.Disconnect n') h i = absurd (omega (arith, one_operation bytes _ _ h i))
same_control bytes (control.Sessions x) control.Metrics h i = absurd (omega (arith, one_operation bytes _ _ h i))
same_control bytes (control.Sessions x) (control.Sessions x') h i =
    ap (λ (x : Triple). control.Sessions x) (same_branch x x' h.holds i.holds (behind bytes _ _ h i))
same_control bytes (control.Sessions x) (control.First m') h i = absurd (omega (arith, one_operation bytes _ _ h i))
same_control bytes (control.Sessions x) (control.Final m') h i = absurd (omega (arith, one_operation bytes _ _ h i))
same_control bytes (control.First m) control.Shutdown h i = absurd (omega (arith, one_operation bytes _ _ h i))
same_control bytes (control.First m) (control.Hello g') h i = absurd (omega (arith, one_operation bytes _ _ h i))
same_control bytes (control.First m) (control.Disconnect n') h i = absurd (omega (arith, one_operation bytes _ _ h i))
same_control bytes (control.First m) control.Metrics h i = absurd (omega (arith, one_operation bytes _ _ h i))
same_control bytes (control.First m) (control.Sessions x') h i = absurd (omega (arith, one_operation bytes _ _ h i))
same_control bytes (control.First m) (control.First m') h i = ap (λ (x : List ℕ). control.First x) (behind bytes _ _ h i)
same_control bytes (control.First m) (control.Final m') h i = absurd (omega (arith, one_operation bytes _ _ h i))
same_control bytes (control.Final m) control.Shutdown h i = absurd (omega (arith, one_operation bytes _ _ h i))
same_control bytes (control.Final m) (control.Hello g') h i = absurd (omega (arith, one_operation bytes _ _ h i))
same_control bytes (control.Final m) (control.Disconnect n') h i = absurd (omega (arith, one_operation bytes _ _ h i))
same_control bytes (control.Final m) control.Metrics h i = absurd (omega (arith, one_operation bytes _ _ h i))
same_control bytes (control.Final m) (control.Sessions x') h i = absurd (omega (arith, one_operation bytes _ _ h i))
same_control bytes (control.Final m) (control.First m') h i = absurd (omega (arith, one_operation bytes _ _ h i))
same_control bytes (control.Final m) (control.Final m') h i = ap (λ (x : List ℕ). control.Final x) (behind bytes _ _ h i)

control_short : (bytes : List ℕ) (k : Control) → SpellsControl bytes k → length bytes ≤ 65535
control_short bytes control.Shutdown h = omega (arith, ap (λ (bs : List ℕ). length bs) h.bytes_are)
control_short bytes (control.Hello g) h = omega (arith, ap (λ (bs : List ℕ). length bs) h.bytes_are)
control_short bytes (control.Disconnect n) h = omega (arith, ap (λ (bs : List ℕ). length bs) h.bytes_are)
control_short bytes control.Metrics h = omega (arith, ap (λ (bs : List ℕ). length bs) h.bytes_are)
control_short bytes (control.Sessions x) h =
    omega (arith, ap (λ (bs : List ℕ). length bs) h.bytes_are, length-append x.gtrid x.bqual, h.holds.lengths)
control_short bytes (control.First m) h = omega (arith, ap (λ (bs : List ℕ). length bs) h.bytes_are, h.holds.few)
control_short bytes (control.Final m) h = omega (arith, ap (λ (bs : List ℕ). length bs) h.bytes_are, h.holds.few)

pub one_control : IsOneSpelling SpellsControl
one_control = record { value = same_control; content = λ a b k h i. h.bytes_are ∙ sym i.bytes_are; short = control_short }
