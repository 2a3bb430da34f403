-- Worked frames at the borders of each refusal, by computation on the definition. Assumes nothing.
use Rattle.std.specs.Prelude.{List, [], ◌∷◌, ◌++◌, ◌≡◌, refl, ℕ}
use Rattle.ids.specs.Id.{valid_id, valid_suffix, callsign_length, all_graphic, is_callsign, is_graphic}
use Rattle.sums.specs.Sum.{sum_from, next_station_sum}
use Rattle.afp_receiver.specs.Receiver.{pointer_refusals, end_refusals, id_refusals, sum_refusals, field_refusals, receiver_refusals, receiver_of}
use Rattle.afp_receiver.specs.declared.Receiver.{Receiver}
use Rattle.afp_receiver.specs.declared.Receiver.TheVariants.{Refused, Broadcast, Station}

-- A frame of 20 octets by its octets 0, 3 and 4 and the octets at places 10 to 13, where a second ID may stand: the source AB1C stands at 5 to 9,
-- the closing 0 at 14 and the header sum at 15, so that octet 3 is 16 where all is right. Version, protocol, header sum, data and check octets are 0:
-- they are not looked at.
abbrev frame : (sum offset pointer : ℕ) → List ℕ → List ℕ
frame sum offset pointer second =
    sum ∷ 0 ∷ 0 ∷ offset ∷ pointer ∷ 4 ∷ 0x41 ∷ 0x42 ∷ 0x31 ∷ 0x43 ∷ (second ++ (0 ∷ 0 ∷ 0 ∷ 0 ∷ 0 ∷ 0 ∷ []))

-- the ID X/9, whose field has the sum C3, and TTT, whose field has the sum FF
abbrev X/9 : List ℕ
X/9 = 3 ∷ 0x58 ∷ 0x2F ∷ 0x39 ∷ []

abbrev TTT : List ℕ
TTT = 3 ∷ 0x54 ∷ 0x54 ∷ 0x54 ∷ []

abbrev at_10 : Receiver
at_10 = Station (record { place = 10; size = 4 })

pub record Examples : Type 0 where
  pub second_named : receiver_of (frame 0xC3 16 10 X/9) ≡ at_10
  pub all_named : receiver_of (frame 0xFF 16 0 X/9) ≡ Broadcast
  -- 37: the field's sum, which is over its length octet too; FF written as 0; FF in a broadcast
  pub sum_other : receiver_of (frame 0xC0 16 10 X/9) ≡ Refused 37
  pub sum_0 : receiver_of (frame 0x00 16 10 TTT) ≡ at_10
  pub sum_FF : receiver_of (frame 0xFF 16 10 TTT) ≡ Refused 37
  pub broadcast_0 : receiver_of (frame 0x00 16 0 X/9) ≡ Refused 37
  -- 36: below 7, and one before the data offset
  pub place_5 : receiver_of (frame 0xC3 16 5 X/9) ≡ Refused 36
  pub place_6 : receiver_of (frame 0xC3 16 6 X/9) ≡ Refused 36
  pub place_last : receiver_of (frame 0xC3 16 15 X/9) ≡ Refused 36
  -- 35: from 7, and at two and three before the data offset; a field that ends two before it; lower case; no ID
  pub place_7 : receiver_of (frame 0xC3 16 7 X/9) ≡ Refused 35
  pub two_before : receiver_of (frame 0x00 16 14 X/9) ≡ Refused 35
  pub three_before : receiver_of (frame 0x01 16 13 (3 ∷ 0x58 ∷ 0x2F ∷ 1 ∷ [])) ≡ Refused 35
  pub ends_late : receiver_of (frame 0xC3 15 10 X/9) ≡ Refused 35
  pub lower_case : receiver_of (frame 0xE3 16 10 (3 ∷ 0x78 ∷ 0x2F ∷ 0x39 ∷ [])) ≡ Refused 35
  pub no_ID : receiver_of (frame 0x00 16 10 (0 ∷ 0x58 ∷ 0x2F ∷ 0x39 ∷ [])) ≡ Refused 35
  -- 34: the header has 12 octets or more, and ends before the check octets; 30 before it
  pub offset_11 : receiver_of (frame 0xFF 11 0 X/9) ≡ Refused 34
  pub offset_18 : receiver_of (frame 0xFF 18 0 X/9) ≡ Broadcast
  pub offset_19 : receiver_of (frame 0xFF 19 0 X/9) ≡ Refused 34
  pub no_frame : receiver_of (0xFF ∷ 0 ∷ 0 ∷ 11 ∷ 0 ∷ []) ≡ Refused 30

pub examples : Examples
unfolding receiver_of receiver_refusals pointer_refusals end_refusals id_refusals sum_refusals field_refusals next_station_sum sum_from valid_id valid_suffix callsign_length all_graphic is_callsign is_graphic
examples =
    record {
      second_named = refl;
      all_named = refl;
      sum_other = refl;
      sum_0 = refl;
      sum_FF = refl;
      broadcast_0 = refl;
      place_5 = refl;
      place_6 = refl;
      place_last = refl;
      place_7 = refl;
      two_before = refl;
      three_before = refl;
      ends_late = refl;
      lower_case = refl;
      no_ID = refl;
      offset_11 = refl;
      offset_18 = refl;
      offset_19 = refl;
      no_frame = refl;
    }
