pub mod SentHelpers
