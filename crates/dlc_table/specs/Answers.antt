-- The numbers that a link's events give back, by the paper's table. Cited by the specs and the functions of the link. Assumes nothing.
use Rattle.std.specs.Prelude.{ℕ, Bool, ◌&&◌, not, eqb}

abbrev pub done : ℕ
done = 0

-- payload: link not open
abbrev pub not_open : ℕ
not_open = 20

-- payload: over 256 octets
abbrev pub payload_too_long : ℕ
payload_too_long = 21

-- payload: queue full
abbrev pub queue_full : ℕ
queue_full = 22

-- packet empty, of no listed kind, over 257, or not DATA and longer than 1; low nibble not 0 in RESET or RESET_ACK
abbrev pub bad_packet : ℕ
bad_packet = 23

-- no entry in the table, or another DACK distance
abbrev pub no_entry : ℕ
no_entry = 24

-- other DATA number, DACK sent
abbrev pub other_number : ℕ
other_number = 25

-- reply buffer too short
abbrev pub reply_too_small : ℕ
reply_too_small = 26

-- link value not well formed
abbrev pub bad_link : ℕ
bad_link = 27

-- edition not 1 or 2, where a link is made
abbrev pub bad_edition : ℕ
bad_edition = 28

-- a refusal: every number but 0 and 25
abbrev pub refuses : ℕ → Bool
refuses c = not (eqb c done) && not (eqb c other_number)
