pub mod LoggingIn
