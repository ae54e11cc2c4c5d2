-- What a closure has captured may cross to another thread where each part of it may.
use Prim.Native.Nat.{ℕ}
use mathlib.Core.List.{List as Many, [], ◌∷◌}
use denote.RattleType.{RattleType}
use denote.Param.{param}
use denote.Param.Send.{IsSend, AllSend, param_send, recorded_send, struct_send}
use denote.Struct.Declared.{shape}
use denote.Struct.Field.{rows}
use denote.Struct.Struct.{Struct}
use denote.Struct.Tuple.{TupleAt, type_at, parts}

each_part : (Ts : Many RattleType) → AllSend Ts → AllSend (rows (parts Ts))
each_part [] s = tt
each_part (T ∷ Ts) s = (s.0, each_part Ts s.1)

pub captures_send : (i : ℕ) (Ts : Many RattleType) → AllSend Ts → IsSend (param i (TupleAt [] Ts))
captures_send i Ts s =
    let T = type_at [] Ts in param_send i (TupleAt [] Ts) (recorded_send (Struct (shape T)) T.D T.to T.to_one (struct_send (shape T) (each_part Ts s)))
