-- Worked rows: an exchange's spellings (RFC 7677, 3), what a server keeps then, and one of HMAC (RFC 4231, 4.3).
use Rattle.std.specs.Prelude.{◌≡◌, ℕ, true, false, List, [], ◌∷◌, codes}
use Rattle.std.specs.List.{list_all}
use Rattle.xa_scram.specs.declared.opening.Opening.{Opening}
use Rattle.xa_scram.specs.Believed.Exchanges.{opened_by}
use Rattle.xa_scram.specs.Believed.Keyed.{hmac}
use Rattle.xa_scram.specs.Believed.Keys.{Credentials}
use Rattle.xa_scram.specs.Believed.Limits.{is_name_byte, is_nonce_byte}
use Rattle.xa_scram.specs.Believed.Messages.{Asked, acceptance_bytes, base64, challenge_bytes, final_bytes, header_bytes, opening_bytes, text_of}
use Rattle.xa_scram.specs.declared.opening.Binding.TheVariants.{Unsupported, Unoffered}

abbrev pub worked_salt : List ℕ
worked_salt = 91 ∷ 109 ∷ 153 ∷ 104 ∷ 157 ∷ 18 ∷ 53 ∷ 142 ∷ 236 ∷ 160 ∷ 75 ∷ 20 ∷ 18 ∷ 54 ∷ 250 ∷ 129 ∷ []

abbrev pub worked_proof : List ℕ
worked_proof =
    116 ∷ 124 ∷ 219 ∷ 101 ∷ 170 ∷ 86 ∷ 34 ∷ 78 ∷ 35 ∷ 82 ∷ 19 ∷ 126 ∷ 82 ∷ 215 ∷ 189 ∷ 202 ∷ 214 ∷ 160 ∷ 247 ∷ 56 ∷ 223 ∷ 48 ∷ 120 ∷ 44 ∷
    170 ∷ 105 ∷ 162 ∷ 207 ∷ 176 ∷ 39 ∷ 117 ∷ 84 ∷ []

abbrev pub worked_signature : List ℕ
worked_signature =
    234 ∷ 186 ∷ 226 ∷ 77 ∷ 16 ∷ 98 ∷ 219 ∷ 117 ∷ 169 ∷ 69 ∷ 31 ∷ 240 ∷ 182 ∷ 234 ∷ 126 ∷ 152 ∷ 200 ∷ 84 ∷ 101 ∷ 73 ∷ 255 ∷ 116 ∷ 30 ∷ 103 ∷
    45 ∷ 50 ∷ 81 ∷ 178 ∷ 57 ∷ 125 ∷ 228 ∷ 110 ∷ []

abbrev pub worked_opening : Opening
worked_opening = opened_by (codes "user") (codes "rOprNGfwEbeRWgbNEkqO")

abbrev pub worked_asked : Asked
worked_asked = record { own = codes "%hvYDpWUa2RaTCAfuxFIlj)hNlF$k0"; salt = worked_salt; iterations = 4096 }

-- of the secret `pencil`, by another implementation (Python's hashlib)
abbrev pub worked_credentials : Credentials
worked_credentials =
    record {
      salt = worked_salt;
      iterations = 4096;
      stored
          = 88 ∷ 110 ∷ 93 ∷ 242 ∷ 131 ∷ 230 ∷ 220 ∷ 235 ∷ 92 ∷ 62 ∷ 121 ∷ 29 ∷ 139 ∷ 133 ∷ 40 ∷ 236 ∷ 25 ∷ 30 ∷ 102 ∷ 64 ∷ 69 ∷ 206 ∷ 151 ∷ 23 ∷
          146 ∷ 226 ∷ 230 ∷ 181 ∷ 187 ∷ 19 ∷ 226 ∷ 166 ∷ [];
      server
          = 193 ∷ 243 ∷ 203 ∷ 193 ∷ 193 ∷ 58 ∷ 157 ∷ 53 ∷ 161 ∷ 76 ∷ 9 ∷ 144 ∷ 238 ∷ 217 ∷ 118 ∷ 41 ∷ 234 ∷ 34 ∷ 88 ∷ 99 ∷ 229 ∷ 102 ∷ 164 ∷ 49 ∷
          74 ∷ 185 ∷ 159 ∷ 63 ∷ 0 ∷ 229 ∷ 217 ∷ 213 ∷ [];
    }

abbrev pub SpelledSo : Type 0
SpelledSo =
    (base64 (header_bytes Unsupported) ≡ codes "biws")
    × (base64 (header_bytes Unoffered) ≡ codes "eSws")
    × (opening_bytes worked_opening ≡ codes "n,,n=user,r=rOprNGfwEbeRWgbNEkqO")
    × (challenge_bytes (codes "rOprNGfwEbeRWgbNEkqO") worked_asked
    ≡ codes "r=rOprNGfwEbeRWgbNEkqO%hvYDpWUa2RaTCAfuxFIlj)hNlF$k0,s=W22ZaJ0SNY7soEsUEjb6gQ==,i=4096")
    × (final_bytes worked_opening worked_asked.own worked_proof
    ≡ codes "c=biws,r=rOprNGfwEbeRWgbNEkqO%hvYDpWUa2RaTCAfuxFIlj)hNlF$k0,p=dHzbZapWIk4jUhN+Ute9ytag9zjfMHgsqmmiz7AndVQ=")
    × (acceptance_bytes worked_signature ≡ codes "v=6rriTRBi23WpRR/wtup+mMhUZUn/dB5nLTJRsjl95G4=")
    × (text_of worked_credentials
    ≡ codes "SCRAM-SHA-256$4096:W22ZaJ0SNY7soEsUEjb6gQ==$WG5d8oPm3OtcPnkdi4Uo7BkeZkBFzpcXkuLmtbsT4qY=:wfPLwcE6nTWhTAmQ7tl2KeoiWGPlZqQxSrmfPwDl2dU=")
    -- a byte of each kind that names and nonces may have, and one that they may not
    × (list_all is_name_byte (codes "azAZ09-_.@") ≡ true)
    × (list_all is_nonce_byte (codes "!+-~") ≡ true)
    × (is_name_byte 61 ≡ false)
    × (is_nonce_byte 44 ≡ false)

abbrev pub KeyedSo : Type 0
KeyedSo =
    hmac (codes "Jefe") (codes "what do ya want for nothing?")
    ≡ 91 ∷ 220 ∷ 193 ∷ 70 ∷ 191 ∷ 96 ∷ 117 ∷ 78 ∷ 106 ∷ 4 ∷ 36 ∷ 38 ∷ 8 ∷ 149 ∷ 117 ∷ 199 ∷ 90 ∷ 0 ∷ 63 ∷ 8 ∷ 157 ∷ 39 ∷ 57 ∷ 131 ∷
    157 ∷ 236 ∷ 88 ∷ 185 ∷ 100 ∷ 236 ∷ 56 ∷ 67 ∷ []
