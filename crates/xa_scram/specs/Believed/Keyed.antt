-- HMAC (RFC 2104) over SHA-256, whose blocks have 64 bytes, and Hi (RFC 5802, 2.2): PBKDF2 with one block.
use Rattle.std.specs.Prelude.{ℕ, zero, suc, ◌-◌, nat_lt, if◌then◌else◌, List, [], ◌∷◌, ◌++◌, length, map, replicate, bit_xor}
use Rattle.sha2.specs.Sha256.{sha256}

-- two texts of one length, byte by byte
abbrev pub xor_bytes : List ℕ → List ℕ → List ℕ
xor_bytes [] ys = []
xor_bytes (x ∷ xs) [] = []
xor_bytes (x ∷ xs) (y ∷ ys) = bit_xor x y ∷ xor_bytes xs ys

-- a key that is longer than a block is hashed first
abbrev pub short_key : List ℕ → List ℕ
short_key key = if nat_lt 64 (length key) then sha256 key else key

-- a short key with zeros after it, up to a block, each byte with this one
abbrev pub padded : ℕ → List ℕ → List ℕ
padded byte key = map (λ b. bit_xor b byte) (key ++ replicate (64 - length key) 0)

unfoldable pub hmac : List ℕ → List ℕ → List ℕ
hmac key message = sha256 (padded 0x5c (short_key key) ++ sha256 (padded 0x36 (short_key key) ++ message))

-- U 1, U 2, ..., counted from 0: of the salt with the number 1 in four bytes after it, then of the one before
unfoldable pub link : List ℕ → List ℕ → ℕ → List ℕ
link secret salt zero = hmac secret (salt ++ 0 ∷ 0 ∷ 0 ∷ 1 ∷ [])
link secret salt (suc n) = hmac secret (link secret salt n)

-- the first of them and n more, xored
unfoldable pub folded : List ℕ → List ℕ → ℕ → List ℕ
folded secret salt zero = link secret salt zero
folded secret salt (suc n) = xor_bytes (folded secret salt n) (link secret salt (suc n))

-- for a count of 1 or more
abbrev pub hi : List ℕ → List ℕ → ℕ → List ℕ
hi secret salt count = folded secret salt (count - 1)
