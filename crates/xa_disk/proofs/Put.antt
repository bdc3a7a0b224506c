-- A write in two steps: zeros after the end, and then the bytes over what is there.
use Rattle.std.proofs.Common.{◌≡◌, ℕ, ◌+◌, ◌-◌, ◌≤◌, List, ◌++◌, length, take, drop, replicate, arith, rules}
use Rattle.std.proofs.lemmas.List.{places, same_lists, take_at}
use Rattle.xa_disk.specs.Disk.{put}

pub put_grown : (old : List ℕ) (at : ℕ) (bytes : List ℕ) (e : ℕ) → e ≡ at + length bytes → take at (old ++ replicate (e - length old) 0) ++ bytes ++ drop (at + length bytes) (old ++ replicate (e - length old) 0) ≡ put old at bytes
put_grown old at bytes e is = same_lists _ _ (search (rules, places)) (λ k d h. grind (arith, places))

-- what a call left in the part of a Vec that is all of it
pub written_back : {X : Type 0} (n : ℕ) (new old : List X) → length new ≡ n → length old ≤ n → take n (new ++ drop (length new) old) ≡ new
written_back n new old is le = take_at new _ n is
