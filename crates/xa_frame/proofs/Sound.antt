-- The rule of faults never says that memory was wanted.
use Rattle.std.proofs.Common.{◌≡◌, ℕ, zero, suc, Bool, true, false, cond, eqb, ltb, ◌||◌, List, [], ◌∷◌, length, take, drop, Option, Some, None, Result, Ok, Err, ap}
use Rattle.std.specs.Int.{w16, from_be_bytes}
use Rattle.xa_codes.specs.declared.call.Call.{Call}
use Rattle.xa_codes.specs.declared.call.Call.TheVariants as call
use Rattle.xa_xid.specs.Triple.{Triple}
use Rattle.xa_xid.specs.Reading.{xid_at}
use Rattle.xa_limits.specs.declared.TheConstants.{MOST_VALUE}
use Rattle.xa_frame.specs.declared.fault.FrameFault.{FrameFault}
use Rattle.xa_frame.specs.declared.fault.FrameFault.TheVariants.{Short, Long, Version, Field, Trailing, Memory}
use Rattle.xa_frame.specs.Spelling.{numbered, detail_numbered, state_numbered}
use Rattle.xa_frame.specs.Faults.{After, after_bytes, after_info, after_key, after_value, after_direction, after_detail, behind, after_number, after_xid, and_then, after_both, after_cursor, after_state, after_counts, after_branch, after_each, after_counted, if_some, after_body, go_on, fault_in, fields, fault_of_fields, fault_of_operation, fault_behind_version, fault_unless_long, fault_of_request, fault_of_reply}

abbrev IsSound : Result (List ℕ) FrameFault → Type 0
IsSound r = r ≡ Err Memory → ⊥

abbrev AreSound : After → Type 0
AreSound after = (bytes : List ℕ) → IsSound (after bytes)

either : (b : Bool) (r s : Result (List ℕ) FrameFault) → IsSound r → IsSound s → IsSound (cond b r s)
either true r s h k = h
either false r s h k = k

ok : (bytes : List ℕ) → IsSound (Ok bytes)
ok bytes e = absurd cc

short : IsSound (Err Short)
short e = absurd cc

field : IsSound (Err Field)
field e = absurd cc

sound_bytes : (n : ℕ) → AreSound (after_bytes n)
sound_bytes n bytes = either (ltb (length bytes) n) (Err Short) (Ok (drop n bytes)) short (ok (drop n bytes))

sound_info : AreSound after_info
sound_info [] = short
sound_info (n ∷ rest) = sound_bytes n rest

sound_key : AreSound after_key
sound_key [] = short
sound_key (n ∷ rest) = either (eqb n 0 || ltb 64 n) (Err Field) (after_bytes n rest) field (sound_bytes n rest)

sound_value : AreSound after_value
sound_value bytes =
    let n = from_be_bytes w16 (take 2 bytes) in
    either (ltb (length bytes) 2) (Err Short) (cond (ltb MOST_VALUE n) (Err Field) (after_bytes n (drop 2 bytes))) short
    (either (ltb MOST_VALUE n) (Err Field) (after_bytes n (drop 2 bytes)) field (sound_bytes n (drop 2 bytes)))

sound_direction : AreSound after_direction
sound_direction [] = short
sound_direction (b ∷ rest) = either (eqb b 1 || eqb b 2) (Ok rest) (Err Field) (ok rest) field

sound_some : {A : Type 0} (o : Option A) (rest : List ℕ) → IsSound (if_some o rest)
sound_some None rest = field
sound_some (Some x) rest = ok rest

sound_number : {A : Type 0} (numbered : ℕ → Option A) → AreSound (after_number numbered)
sound_number numbered [] = short
sound_number numbered (b ∷ rest) = sound_some (numbered b) rest

sound_behind : (bytes : List ℕ) (o : Option (Triple × ℕ)) → IsSound (behind bytes o)
sound_behind bytes None = field
sound_behind bytes (Some x) = ok (drop x.1 bytes)

sound_xid : AreSound after_xid
sound_xid bytes = sound_behind bytes (xid_at bytes)

sound_then : (r : Result (List ℕ) FrameFault) (f : After) → IsSound r → AreSound f → IsSound (and_then r f)
sound_then (Ok rest) f h k = k rest
sound_then (Err e) f h k = h

sound_both : (first second : After) → AreSound first → AreSound second → AreSound (after_both first second)
sound_both first second h k bytes = sound_then (first bytes) second (h bytes) k

sound_cursor : AreSound after_cursor
sound_cursor [] = short
sound_cursor (b ∷ rest) = either (eqb b 0) (Ok rest) (cond (eqb b 1) (after_xid rest) (Err Field)) (ok rest) (either (eqb b 1) (after_xid rest) (Err Field) (sound_xid rest) field)

sound_counts : AreSound after_counts
sound_counts = sound_both (after_bytes 2) (after_both (after_bytes 2) (after_bytes 2)) (sound_bytes 2) (sound_both (after_bytes 2) (after_bytes 2) (sound_bytes 2) (sound_bytes 2))

sound_branch : AreSound after_branch
sound_branch =
    sound_both after_xid (after_both after_state (after_both (after_bytes 4) (after_both (after_bytes 8) after_counts))) sound_xid
    (sound_both after_state (after_both (after_bytes 4) (after_both (after_bytes 8) after_counts)) (sound_number state_numbered)
    (sound_both (after_bytes 4) (after_both (after_bytes 8) after_counts) (sound_bytes 4) (sound_both (after_bytes 8) after_counts (sound_bytes 8) sound_counts)))

sound_each : (after : After) → AreSound after → (n : ℕ) → AreSound (after_each after n)
sound_each after h zero bytes = ok bytes
sound_each after h (suc n) bytes = sound_then (after bytes) (after_each after n) (h bytes) (sound_each after h n)

sound_counted : (after : After) → AreSound after → AreSound (after_counted after)
sound_counted after h bytes =
    let n = from_be_bytes w16 (take 2 bytes) in
    either (ltb (length bytes) 2) (Err Short) (cond (ltb 256 n) (Err Field) (after_each after n (drop 2 bytes))) short
    (either (ltb 256 n) (Err Field) (after_each after n (drop 2 bytes)) field (sound_each after h n (drop 2 bytes)))

sound_kinds : (a b c d e f g : Bool) (rest : List ℕ)
    → IsSound (cond a (Ok rest) (cond b (after_bytes 8 rest) (cond c (after_value rest) (cond d (Ok rest)
    (cond e (after_counted after_xid rest) (cond f (after_counted after_branch rest) (cond g (after_bytes 80 rest) (Err Field))))))))
sound_kinds true b c d e f g rest = ok rest
sound_kinds false true c d e f g rest = sound_bytes 8 rest
sound_kinds false false true d e f g rest = sound_value rest
sound_kinds false false false true e f g rest = ok rest
sound_kinds false false false false true f g rest = sound_counted after_xid sound_xid rest
sound_kinds false false false false false true g rest = sound_counted after_branch sound_branch rest
sound_kinds false false false false false false true rest = sound_bytes 80 rest
sound_kinds false false false false false false false rest = field

sound_body : AreSound after_body
sound_body [] = short
sound_body (kind ∷ rest) = sound_kinds (eqb kind 0) (eqb kind 1) (eqb kind 2) (eqb kind 3) (eqb kind 4) (eqb kind 5) (eqb kind 6) rest

-- ---- fields one after another

abbrev EachIsSound : List After → Type 0
EachIsSound [] = Unit {0}
EachIsSound (after ∷ others) = AreSound after × EachIsSound others

abbrev IsNoMemory : Option FrameFault → Type 0
IsNoMemory o = o ≡ Some Memory → ⊥

no_fault : IsNoMemory None
no_fault e = absurd cc

choice : (b : Bool) (o p : Option FrameFault) → IsNoMemory o → IsNoMemory p → IsNoMemory (cond b o p)
choice true o p h k = h
choice false o p h k = k

trailing : IsNoMemory (Some Trailing)
trailing e = absurd cc

goes_on : (r : Result (List ℕ) FrameFault) (f : List ℕ → Option FrameFault) → IsSound r → ((bytes : List ℕ) → IsNoMemory (f bytes)) → IsNoMemory (go_on r f)
goes_on (Ok rest) f h k = k rest
goes_on (Err d) f h k = λ e. let same : d ≡ Memory = cc in h (ap Err same)

in_fields : (fs : List After) → EachIsSound fs → (bytes : List ℕ) → IsNoMemory (fault_in fs bytes)
in_fields [] h bytes = choice (eqb (length bytes) 0) None (Some Trailing) no_fault trailing
in_fields (after ∷ others) h bytes = goes_on (after bytes) (fault_in others) (h.0 bytes) (in_fields others h.1)

each : (c : Call) → EachIsSound (fields c)
each call.Open = (sound_bytes 4, (sound_info, tt))
each call.Close = (sound_bytes 4, tt)
each call.Start = (sound_bytes 4, (sound_xid, tt))
each call.End = (sound_bytes 4, (sound_xid, tt))
each call.Prepare = (sound_bytes 4, (sound_xid, tt))
each call.Commit = (sound_bytes 4, (sound_xid, tt))
each call.Rollback = (sound_bytes 4, (sound_xid, tt))
each call.Recover = (sound_bytes 4, (sound_bytes 4, tt))
each call.Forget = (sound_bytes 4, (sound_xid, tt))
each call.Get = (sound_key, tt)
each call.Put = (sound_key, (sound_value, tt))
each call.Delete = (sound_key, tt)
each call.Decide = (sound_direction, (sound_xid, tt))
each call.Doom = (sound_xid, tt)
each call.Restart = tt
each call.Timeout = (sound_bytes 4, tt)
each call.Tick = (sound_bytes 8, tt)
each call.Trim = tt
each call.Branches = (sound_bytes 4, (sound_cursor, tt))

of_call : (o : Option Call) (bytes : List ℕ) → IsNoMemory (fault_of_fields o bytes)
of_call None bytes = λ e. absurd cc
of_call (Some c) bytes = in_fields (fields c) (each c) bytes

of_operation : (bytes : List ℕ) → IsNoMemory (fault_of_operation bytes)
of_operation [] = λ e. absurd cc
of_operation (n ∷ bytes) = of_call (numbered n) bytes

of_version : (f : List ℕ → Option FrameFault) → ((bytes : List ℕ) → IsNoMemory (f bytes)) → (bytes : List ℕ) → IsNoMemory (fault_behind_version f bytes)
of_version f h [] = λ e. absurd cc
of_version f h (v ∷ bytes) = choice (eqb v 1) (f bytes) (Some Version) (h bytes) (λ e. absurd cc)

of_length : (f : List ℕ → Option FrameFault) → ((bytes : List ℕ) → IsNoMemory (f bytes)) → (bytes : List ℕ) → IsNoMemory (fault_unless_long f bytes)
of_length f h bytes = choice (ltb 65535 (length bytes)) (Some Long) (fault_behind_version f bytes) (λ e. absurd cc) (of_version f h bytes)

pub request_sound : (bytes : List ℕ) → fault_of_request bytes ≡ Some Memory → ⊥
request_sound = of_length fault_of_operation of_operation

pub reply_sound : (bytes : List ℕ) → fault_of_reply bytes ≡ Some Memory → ⊥
reply_sound = of_length (fault_in (after_bytes 4 ∷ after_detail ∷ after_bytes 8 ∷ after_body ∷ [])) (in_fields (after_bytes 4 ∷ after_detail ∷ after_bytes 8 ∷ after_body ∷ []) (sound_bytes 4, (sound_number detail_numbered, (sound_bytes 8, (sound_body, tt)))))
