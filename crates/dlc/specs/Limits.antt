-- The limits of a link and its sequence numbers, brought together from the crates below for whoever stands above the link. Assumes nothing.
pub use Rattle.dlc_packet.specs.Numbers.{modulus, advance, Edition, dack_number, distance}
pub use Rattle.dlc_packet.specs.Packet.{max_payload, reset_packet, reset_ack_packet, data_packet, data_packets, dack_packet, kind_of}
pub use Rattle.dlc_queue.specs.Queue.{slots, reply_size, payloads}
pub use Rattle.dlc_send.specs.Send.{lengths_of}
