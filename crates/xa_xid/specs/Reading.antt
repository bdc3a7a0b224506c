-- Reading an XID's bytes from the front.
use Rattle.std.specs.Prelude.{ℕ, ◌+◌, ℤ, List, length, take, drop, slice_index, Option, None, option_map, nat_lt, if◌then◌else◌}
use Rattle.std.specs.Int.{w32, from_be_bytes, cast_signed}
use Rattle.std.specs.Result.{result_ok}
use Rattle.xa_xid.specs.Triple.{Triple}
use Rattle.xa_xid.specs.Fault.{xid_of}

-- the parts of these lengths at the front
unfoldable pub parts_at : ℤ → ℕ → ℕ → List ℕ → Option (Triple × ℕ)
parts_at format g b bytes =
    if nat_lt (length bytes) (g + b) then None
    else option_map (λ x. (x, 6 + g + b)) (result_ok (xid_of format (take g bytes) (take b (drop g bytes))))

-- the XID at the front, and how many bytes it takes
unfoldable pub xid_at : List ℕ → Option (Triple × ℕ)
xid_at bytes =
    if nat_lt (length bytes) 6 then None
    else parts_at (cast_signed w32 (from_be_bytes w32 (take 4 bytes))) (slice_index bytes 4) (slice_index bytes 5)
    (drop 6 bytes)
